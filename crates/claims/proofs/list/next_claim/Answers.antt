-- `list::next_claim` meets its contract: what is no list line is refused at its own field.
use Rattle.std.proofs.Common.{sym, ap, ◌∙◌, Err}
use Rattle.claims.proofs.ListLaws.{claim-refused}
use Rattle.claims.proofs.list.next_claim.Goals as goal

pub returns-in-Err : goal.returns-in-Err
returns-in-Err c = claim-refused _ _ c.args.list.now (sym c.is_empty.ensures ∙ c.if-is_empty.false) c.in-Err.ensures ∙ sym (ap Err c.on-in-Err.ensures)
