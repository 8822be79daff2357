-- No time that was tried equals its demand.
use Rattle.std.proofs.Common.{ℕ, ◌<◌, ◌≡◌}
use Rattle.laws.proofs.solutions.smallest.Given as goal

abbrev pub invariant-loop-r : goal.invariant-loop-r
invariant-loop-r g l = (s : ℕ) → s < l.r → s ≡ g.D.Demand.asked l.demand s → ⊥
