-- A sum that is above the time stays above it.
use Rattle.std.proofs.Common.{arith, ◌∙◌, refl, ◌+◌}
use Rattle.edf.specs.Bound.{demand_bound}
use Rattle.edf.proofs.BoundLaws.{bound-next, bound-fewer, told-none, number-is, none-is}
use Rattle.edf.proofs.bound.bound_within.Goals as goal

pub loop-task-init : goal.loop-task-init
unfolding demand_bound
loop-task-init c = (refl, omega arith)

pub returns-in_err-sum : goal.returns-in_err-sum
returns-in_err-sum c =
    let ts = c.args.tasks.now in
    let i = c.loop-task.task-index in
    c.from_residual.ensures
    ∙ told-none _ _ (omega (arith, none-is _ _ c.in_err-sum.ensures, bound-next ts i c.args.x c.loop-task-test.true, bound-fewer ts (i + 1) c.args.x))

pub returns-then-x-sum : goal.returns-then-x-sum
returns-then-x-sum c =
    let ts = c.args.tasks.now in
    let i = c.loop-task.task-index in
    let n = number-is _ _ _ c.in_ok-sum.ensures in
    told-none _ _ (omega (arith, n, c.loop-task.invariant, bound-next ts i c.args.x c.loop-task-test.true, bound-fewer ts (i + 1) c.args.x))

pub loop-task-preserved : goal.loop-task-preserved
loop-task-preserved c =
    let n = number-is _ _ _ c.in_ok-sum.ensures in
    (omega (arith, n, bound-next c.args.tasks.now c.loop-task.task-index c.args.x c.loop-task-test.true), c.if-x-sum.false)
