use Rattle.std.proofs.Common.{sym, ◌∙◌, ap, arith, length}
use Rattle.texts.proofs.LineSteps.{next-line, no-line}
use Rattle.texts.proofs.lines.LinesIterator.next.Goals as goal

pub returns-then-is_empty-clause-steps : goal.returns-then-is_empty-clause-steps
returns-then-is_empty-clause-steps c =
    let none = sym c.self.view_is ∙ no-line c.self.inside.rest.now (sym c.is_empty.ensures ∙ c.if-is_empty.true) in
    (none, none)

pub returns-clause-steps : goal.returns-clause-steps
returns-clause-steps c = sym c.self.view_is ∙ next-line c.self.inside.rest.now _ _ (sym c.is_empty.ensures ∙ c.if-is_empty.false) c.next_line.ensures.line c.next_line.ensures.below

pub returns-clause-goes : goal.returns-clause-goes
returns-clause-goes c = record { on = λ _. (tt, tt, omega (arith, ap length (returns-clause-steps c))); keeps = tt; rests = λ _. tt }
