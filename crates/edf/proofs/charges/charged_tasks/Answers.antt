-- One task more at the front.
use Rattle.std.proofs.Common.{◌≡◌, arith}
use Rattle.search.proofs.FrontLaws.{front-none, front-next}
use Rattle.edf.specs.Charges.{charged_at, no_charged_task}
use Rattle.edf.proofs.charges.charged_tasks.Goals as goal

pub loop-i-init : goal.loop-i-init
loop-i-init c = front-none no_charged_task _

pub loop-i-preserved : goal.loop-i-preserved
loop-i-preserved c =
    let few = c.args.accepted.accepted.few in
    rw c.loop-i.invariant
    (front-next no_charged_task (charged_at c.args.accepted.table.now) c.loop-i.i _ (omega arith) (rw (c.pending.ensures.table, c.pending.ensures.position) at c.charged.ensures))

pub returns : goal.returns
returns c = let e : c.loop-i.i ≡ c.args.accepted.table.now.count = omega arith in rw e at c.loop-i.invariant
