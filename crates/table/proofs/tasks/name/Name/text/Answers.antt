use Rattle.std.proofs.Common.{sym, ◌∙◌}
use Rattle.texts.proofs.Found.{before-found, before-missing}
use Rattle.table.proofs.tasks.name.Name.text.Goals as goal

pub returns-in-Some : goal.returns-in-Some
returns-in-Some c = before-found _ _ _ (sym c.end.ensures ∙ c.in-Some.is)

pub returns-in-None : goal.returns-in-None
returns-in-None c = before-missing _ _ (sym c.end.ensures ∙ c.in-None.is)
