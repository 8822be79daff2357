-- What the test means.
use Rattle.std.proofs.Common.{sym, ◌∙◌}
use Rattle.changes.proofs.Relation.{table-means, table-told}
use Rattle.changes.proofs.harder.is_harder.Goals as goal

pub returns-clause-means : goal.returns-clause-means
returns-clause-means c = λ e. table-means c.args.first.table.now c.args.second.table.now c.args.first.accepted (sym c.are_all_harder.ensures ∙ e)

pub returns-clause-meant : goal.returns-clause-meant
returns-clause-meant c = λ h. c.are_all_harder.ensures ∙ table-told c.args.first.table.now c.args.second.table.now h
