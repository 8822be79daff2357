use Rattle.std.proofs.Common.{sym, ◌∙◌}
use Rattle.texts.proofs.Found.{fields_step, fields_last}
use Rattle.texts.proofs.lines.first_field.Goals as goal

pub returns-in-Some : goal.returns-in-Some
returns-in-Some c = rw (fields_step _ _ (sym c.find_tab.ensures ∙ c.in-Some.is))

pub returns-in-None : goal.returns-in-None
returns-in-None c = rw (fields_last _ (sym c.find_tab.ensures ∙ c.in-None.is))
