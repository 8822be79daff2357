-- A character more each time, until none is left.
use Rattle.drawn.proofs.Texts.{escaping-more, escaping-done}
use Rattle.drawn.proofs.svg.escaped.Goals as goal

pub loop-character-preserved : goal.loop-character-preserved
loop-character-preserved c = escaping-more _ _ _ _ _ _ c.in-Some.ensures.steps.0 c.in_ok-put.ensures c.loop-character.invariant

pub returns : goal.returns
returns c = escaping-done _ _ _ c.in-None.ensures.steps.0.0 c.loop-character.invariant
