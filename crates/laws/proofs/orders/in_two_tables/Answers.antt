-- `laws::orders::in_two_tables` meets its contract.
use Rattle.laws.proofs.OrderLaws.{easier-first}
use Rattle.laws.proofs.orders.in_two_tables.Goals as goal

pub returns : goal.returns
returns c =
    let a = c.args in
    easier-first a.first.table.now a.second.table.now a.first.i a.second.i a.method _ a.first.accepted a.second.accepted a.first.held c.respond.ensures.value c.respond-2.ensures.value
