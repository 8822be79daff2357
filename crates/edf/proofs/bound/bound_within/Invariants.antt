-- The sum is the bound of the tasks so far, and no larger than the time.
use Rattle.std.proofs.Common.{◌≡◌, ◌≤◌, take}
use Rattle.edf.specs.Bound.{demand_bound}
use Rattle.edf.proofs.bound.bound_within.Given as goal

abbrev pub invariant-loop-task : goal.invariant-loop-task
invariant-loop-task l = (l.sum ≡ demand_bound (take l.task-index l.tasks) l.x) × (l.sum ≤ l.x)
