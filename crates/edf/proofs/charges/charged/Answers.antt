-- Each charge is that of one task more.
use Rattle.std.proofs.Common.{arith}
use Rattle.std.proofs.Math.Seq.{take_all}
use Rattle.table.specs.Tables.{at}
use Rattle.edf.specs.Charges.{charged_time}
use Rattle.edf.proofs.ChargeLaws.{lent-few, lent-accepted, charges-more}
use Rattle.edf.proofs.charges.charged.Goals as goal

pub loop-other-init : goal.loop-other-init
loop-other-init c = rw c.task-task.ensures (record { is = omega arith; few = (c.args.pending.accepted.tasks c.args.pending.i c.args.pending.held).work.1 })

pub charge-time-requires-clause-other : goal.charge-time-requires-clause-other
charge-time-requires-clause-other c =
    lent-accepted c.args.pending.table.now c.tasks-other-items.result.now c.loop-other.other-index c.args.pending.accepted c.tasks-other-items.ensures c.loop-other-test.true

pub overflow_add-time : goal.overflow_add-time
overflow_add-time c =
    let few = lent-few c.args.pending.table.now c.tasks-other-items.result.now c.loop-other.other-index c.args.pending.accepted c.tasks-other-items.ensures c.loop-other-test.true in
    omega (arith, few, c.loop-other.invariant.few, c.charge-time.ensures.most)

pub loop-other-preserved : goal.loop-other-preserved
loop-other-preserved c =
    let t = at c.args.pending.table.now c.args.pending.i in
    let more = charges-more c.args.pending.table.now c.tasks-other-items.result.now c.loop-other.other-index c.args.pending.accepted c.tasks-other-items.ensures c.loop-other-test.true t in
    record {
      is = omega (arith, c.loop-other.invariant.is, rw c.task-task.ensures at c.charge-time.ensures.is, more);
      few = omega (arith, c.loop-other.invariant.few, c.charge-time.ensures.most);
    }

pub returns : goal.returns
unfolding charged_time
returns c =
    rw (c.loop-other.invariant.is, c.task-task.ensures, take_all c.loop-other.other-index _ (rw c.tasks-other-items.ensures at c.loop-other-test.false))
