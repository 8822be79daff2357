-- One period more.
use Rattle.std.proofs.Common.{◌+◌, arith}
use Rattle.std.proofs.Math.Seq.{take_all}
use Rattle.edf.specs.Charges.{no_charged_task}
use Rattle.edf.specs.Hyperperiod.{lcm_from}
use Rattle.edf.proofs.HyperperiodLaws.{horizon-more, beyond, within, means-within}
use Rattle.edf.proofs.hyperperiod.Goals as goal

pub loop-task-init : goal.loop-task-init
unfolding lcm_from
loop-task-init c = omega arith

pub lcm-h-requires : goal.lcm-h-requires
lcm-h-requires c = omega (arith, c.loop-task.invariant, (c.requires c.loop-task.task-index no_charged_task c.loop-task-test.true).period-most)

pub returns-then-h-gt-LONGEST-clause-value : goal.returns-then-h-gt-LONGEST-clause-value
returns-then-h-gt-LONGEST-clause-value c =
    let v = c.loop-task.invariant in
    let m = horizon-more c.args.tasks.now c.loop-task.task-index _ _ c.requires c.loop-task-test.true v.0 v.1 c.lcm-h.ensures.value in
    beyond c.args.tasks.now (c.loop-task.task-index + 1) c.requires (omega (arith, m))

pub returns-then-h-gt-LONGEST-clause-means : goal.returns-then-h-gt-LONGEST-clause-means
returns-then-h-gt-LONGEST-clause-means c = means-within _ c.requires _ (returns-then-h-gt-LONGEST-clause-value c)

pub loop-task-preserved : goal.loop-task-preserved
loop-task-preserved c =
    let v = c.loop-task.invariant in
    let m = horizon-more c.args.tasks.now c.loop-task.task-index _ _ c.requires c.loop-task-test.true v.0 v.1 c.lcm-h.ensures.value in
    (m.0, m.1, omega arith)

pub returns-clause-value : goal.returns-clause-value
returns-clause-value c =
    let all = take_all c.loop-task.task-index c.args.tasks.now c.loop-task-test.false in
    let v = rw all at c.loop-task.invariant in
    rw v.0 (within c.args.tasks.now (omega (arith, v)))

pub returns-clause-means : goal.returns-clause-means
returns-clause-means c = means-within _ c.requires _ (returns-clause-value c)
