-- The tasks passed have no work.
use Rattle.std.proofs.Common.{◌≡◌}
use Rattle.replay.proofs.LoopLaws.{Quiet}
use Rattle.replay.proofs.run_highest.Given as goal

abbrev pub invariant-loop-j : goal.invariant-loop-j
invariant-loop-j l = (l.works ≡ l.initial.works) × Quiet l.j l.works
