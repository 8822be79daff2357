-- The loop walks up with the specification, and has the specification's tally.
use Rattle.std.proofs.Common.{◌≡◌, take, length}
use Rattle.replay.specs.Tally.{tally}
use Rattle.replay.proofs.LoopLaws.{Walked}
use Rattle.replay.proofs.first_end.Given as goal

abbrev pub invariant-loop-t : goal.invariant-loop-t
invariant-loop-t l = (take (length l.tasks) l.works ≡ tally l.tasks l.t) × Walked l.tasks l.i l.fn.limit l.t
