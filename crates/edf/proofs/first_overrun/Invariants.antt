-- No time before `clear` is one, and `first` is.
use Rattle.std.proofs.Common.{◌-◌, ◌≤◌, ◌<◌}
use Rattle.edf.specs.Bound.{demand_bound, InTimeFrom}
use Rattle.edf.proofs.first_overrun.Given as goal

abbrev pub invariant-loop-clear : goal.invariant-loop-clear
invariant-loop-clear l = (l.clear ≤ l.first.0) × (l.first.0 ≤ l.fn.h.0) × (l.first.0 < demand_bound l.tasks l.first.0) × InTimeFrom l.tasks 0 l.clear

abbrev pub decreases-loop-clear : goal.decreases-loop-clear
decreases-loop-clear l = l.first.0 - l.clear
