-- `laws::dominance::under_all` meets its contract.
use Rattle.laws.proofs.DominanceLaws.{six-in-order}
use Rattle.laws.proofs.dominance.under_all.Goals as goal

pub returns : goal.returns
returns c =
    six-in-order c.args.pending.table.now c.args.pending.accepted c.args.pending.i c.args.pending.held _ c.respond.ensures.value c.respond-2.ensures.value c.respond-3.ensures.value c.respond-4.ensures.value c.respond-5.ensures.value
    c.respond-6.ensures.value
