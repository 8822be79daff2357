-- `laws::any_text::of_two_texts` meets its contract.
use Rattle.laws.proofs.TextLaws.{easier-text-first}
use Rattle.laws.proofs.any_text.of_two_texts.Goals as goal

pub returns : goal.returns
returns c =
    let a = c.args in easier-text-first a.first.now a.second.now a.method a.position _ c.answer.ensures.value c.answer-2.ensures.value
