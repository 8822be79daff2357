-- `h` is that of the periods so far.
use Rattle.std.proofs.Common.{◌≡◌, ◌≤◌, take}
use Rattle.edf.specs.Hyperperiod.{hyperperiod}
use Rattle.edf.proofs.hyperperiod.Given as goal

abbrev pub invariant-loop-task : goal.invariant-loop-task
invariant-loop-task l = (l.h ≡ hyperperiod (take l.task-index l.tasks)) × (1 ≤ l.h) × (l.h ≤ 250000000)
