-- `laws::explanations::two_needs` meets its contract.
use Rattle.std.proofs.Common.{ap₂, ◌∙◌}
use Rattle.analysis.specs.Needs.{need_of}
use Rattle.laws.proofs.ExplanationLaws.{needed-alike}
use Rattle.laws.proofs.explanations.two_needs.Goals as goal

pub returns : goal.returns
returns c =
    let a = c.args in
    let first = c.explained.ensures ∙ ap₂ (λ t k. need_of t a.method k) c.pending.ensures.table c.pending.ensures.position in
    let second = c.explained-2.ensures ∙ ap₂ (λ t k. need_of t a.method k) c.pending-2.ensures.table c.pending-2.ensures.position in
    needed-alike a.first.table.now a.second.table.now a.method a.i _ a.first.accepted a.second.accepted first second
