-- `laws::explanations::two_explanations` meets its contract.
use Rattle.laws.proofs.ExplanationLaws.{explained-alike}
use Rattle.laws.proofs.explanations.two_explanations.Goals as goal

pub returns : goal.returns
returns c =
    let a = c.args in
    explained-alike a.first.now a.second.now a.method a.position _ _ _ _ _ c.explain.ensures c.explain-2.ensures
