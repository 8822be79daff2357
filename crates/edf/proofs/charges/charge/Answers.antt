-- The reloads after one pre-emption, times the pre-emptions.
use Rattle.edf.proofs.ChargeLaws.{charge-none, charge-some}
use Rattle.edf.proofs.charges.charge.Goals as goal

pub returns-then-task-other-clause-is : goal.returns-then-task-other-clause-is
returns-then-task-other-clause-is c = charge-none _ _ _ c.if-task-other.true

pub returns-clause-is : goal.returns-clause-is
returns-clause-is c =
    rw (c.time-reload.ensures, c.preemptions.ensures.is, c.size_in.ensures.count, c.ways.ensures)
    (charge-some c.args.table.now c.args.task.now c.args.other.now c.if-task-other.false)
