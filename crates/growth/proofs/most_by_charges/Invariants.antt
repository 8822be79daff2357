-- `low` passes or is 0, and `high`, which is above it, fails; and from `low` on `counts` may be started from.
use Rattle.std.proofs.Common.{ℕ, ◌-◌, ◌≤◌}
use Rattle.growth.specs.Tried.{answers_under, StartedAt}
use Rattle.growth.proofs.BoundLaws.{Spans}
use Rattle.growth.proofs.most_by_charges.Given as goal

abbrev pub invariant-loop-low : goal.invariant-loop-low
invariant-loop-low l =
    Spans (answers_under l.table l.access l.fn.method l.i) l.most l.low l.high
    × ((k : ℕ) → l.low ≤ k → 1 ≤ k → k ≤ l.most → StartedAt l.table l.access l.fn.method l.i k l.counts)

abbrev pub decreases-loop-low : goal.decreases-loop-low
decreases-loop-low l = l.high - l.low
