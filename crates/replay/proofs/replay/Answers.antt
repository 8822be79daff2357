-- The tasks of an accepted table can be replayed.
use Rattle.std.proofs.Common.{arith}
use Rattle.replay.proofs.MachineLaws.{first-means}
use Rattle.replay.proofs.LoopLaws.{tasks-long, tasks-runnable}
use Rattle.replay.proofs.replay.Goals as goal

pub first_end-requires : goal.first_end-requires
first_end-requires c =
    let a = c.args.pending.accepted in
    let long = tasks-long c.args.pending.table.now a in
    rw c.tasks.ensures (record { few = omega (arith, long, a.few); runnable = tasks-runnable _ a; there = omega (arith, long, c.args.pending.held); near = omega arith })

pub returns-clause-means : goal.returns-clause-means
returns-clause-means c = first-means _ _ _ _ (rw (c.tasks.ensures, c.task.ensures) at c.first_end.ensures)
