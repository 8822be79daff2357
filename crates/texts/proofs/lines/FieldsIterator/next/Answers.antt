use Rattle.std.proofs.Common.{sym, ◌∙◌, ap, [], arith, length}
use Rattle.std.specs.Option.{option_map_or}
use Rattle.texts.specs.Cut.{fields}
use Rattle.texts.proofs.Found.{fields_step, fields_last}
use Rattle.texts.proofs.lines.FieldsIterator.next.Goals as goal

pub returns-in-Some-clause-steps : goal.returns-in-Some-clause-steps
returns-in-Some-clause-steps c = sym c.self.view_is ∙ ap (λ r. option_map_or (λ line. fields line.now) r []) c.in_ok-line.was ∙ fields_step _ _ (sym c.find_tab.ensures ∙ c.in-Some.is)

pub returns-in-Some-clause-goes : goal.returns-in-Some-clause-goes
returns-in-Some-clause-goes c = record { on = λ _. (tt, tt, omega (arith, ap length (returns-in-Some-clause-steps c))); keeps = tt; rests = λ _. tt }

pub returns-in-None-clause-steps : goal.returns-in-None-clause-steps
returns-in-None-clause-steps c = sym c.self.view_is ∙ ap (λ r. option_map_or (λ line. fields line.now) r []) c.in_ok-line.was ∙ fields_last _ (sym c.find_tab.ensures ∙ c.in-None.is)

pub returns-in-None-clause-goes : goal.returns-in-None-clause-goes
returns-in-None-clause-goes c = record { on = λ _. (tt, tt, omega (arith, ap length (returns-in-None-clause-steps c))); keeps = tt; rests = λ _. tt }
