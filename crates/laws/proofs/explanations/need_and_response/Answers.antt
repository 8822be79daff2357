-- `laws::explanations::need_and_response` meets its contract.
use Rattle.laws.proofs.ExplanationLaws.{needed-as-answered}
use Rattle.laws.proofs.explanations.need_and_response.Goals as goal

pub returns : goal.returns
returns c =
    let a = c.args.pending in
    needed-as-answered a.table.now a.accepted a.i a.held c.args.method _ c.explained.ensures c.respond.ensures.value
