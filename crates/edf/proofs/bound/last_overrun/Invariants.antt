-- No time from the end on is one.
use Rattle.std.proofs.Common.{◌≤◌}
use Rattle.edf.specs.Bound.{InTimeFrom}
use Rattle.edf.proofs.bound.last_overrun.Given as goal

abbrev pub invariant-loop-end : goal.invariant-loop-end
invariant-loop-end l = (l.end ≤ l.fn.end) × InTimeFrom l.tasks l.end l.fn.end

abbrev pub decreases-loop-end : goal.decreases-loop-end
decreases-loop-end l = l.end
