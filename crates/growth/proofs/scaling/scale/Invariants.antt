-- The loop's invariant: the first tasks are scaled, and the others are as they were.
use Rattle.std.proofs.Common.{◌≡◌}
use Rattle.growth.proofs.ScaledLaws.{scaled_first}
use Rattle.growth.proofs.scaling.scale.Given as goal

abbrev pub invariant-loop-task : goal.invariant-loop-task
invariant-loop-task l = l.task-items ≡ scaled_first l.k l.task-index l.initial.task-items
