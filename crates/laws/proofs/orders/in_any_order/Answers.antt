-- `laws::orders::in_any_order` meets its contract.
use Rattle.std.proofs.Common.{sym, ◌∙◌}
use Rattle.laws.proofs.AnyOrder.{response-any-order}
use Rattle.laws.proofs.orders.in_any_order.Goals as goal

pub returns : goal.returns
returns c =
    let a = c.args in
    record {
      value = c.respond.ensures.value;
      any = λ arranged. c.respond.ensures.value ∙ sym (response-any-order a.pending.table.now a.method a.pending.i arranged);
    }
