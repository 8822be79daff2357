use Rattle.std.proofs.Common.{sym, ◌∙◌}
use Rattle.texts.proofs.Found.{before-found, after-found, before-missing, after-missing}
use Rattle.texts.proofs.lines.next_line.Goals as goal

pub returns-in-Some-clause-line : goal.returns-in-Some-clause-line
returns-in-Some-clause-line c = before-found _ _ _ (sym c.find.ensures ∙ c.in-Some.is)

pub returns-in-Some-clause-below : goal.returns-in-Some-clause-below
returns-in-Some-clause-below c = after-found _ _ _ (sym c.find.ensures ∙ c.in-Some.is)

pub returns-in-None-clause-line : goal.returns-in-None-clause-line
returns-in-None-clause-line c = before-missing _ _ (sym c.find.ensures ∙ c.in-None.is)

pub returns-in-None-clause-below : goal.returns-in-None-clause-below
returns-in-None-clause-below c = after-missing _ _ (sym c.find.ensures ∙ c.in-None.is)
