-- The next task is as it was, and then scaled too.
use Rattle.std.proofs.Common.{ap, ◌∙◌, arith}
use Rattle.growth.specs.Scaling.{scaled_by}
use Rattle.growth.proofs.ScaledLaws.{next-small, next-scaled, first-all, with_tasks}
use Rattle.growth.proofs.scaling.scale.Goals as goal

pub scaled_work-task-requires : goal.scaled_work-task-requires
scaled_work-task-requires c =
    (next-small c.args.k c.loop-task.task-index c.args.table.now.tasks c.loop-task.task-items (omega arith) c.loop-task.invariant 250000000 c.requires.works, c.requires.most)

pub loop-task-preserved : goal.loop-task-preserved
loop-task-preserved c =
    next-scaled c.args.k c.loop-task.task-index c.args.table.now.tasks c.loop-task.task-items (omega arith) c.loop-task.invariant c.scaled_work-task.result
    c.scaled_work-task.ensures

pub returns : goal.returns
unfolding scaled_by
returns c = ap (with_tasks c.args.table.now) (c.loop-task.invariant ∙ first-all c.args.k c.loop-task.task-index c.args.table.now.tasks (omega arith))
