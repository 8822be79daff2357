-- The tasks passed have released their jobs.
use Rattle.std.proofs.Common.{◌≡◌}
use Rattle.replay.proofs.LoopLaws.{release_to}
use Rattle.replay.proofs.release_all.Given as goal

abbrev pub invariant-loop-j : goal.invariant-loop-j
invariant-loop-j l = l.works ≡ release_to l.t l.j l.tasks l.initial.works
