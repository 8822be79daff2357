-- `laws::added::answers` meets its contract.
use Rattle.std.proofs.Common.{◌≡◌, ◌∙◌, arith}
use Rattle.crpd.specs.Operations.{answer_to}
use Rattle.laws.specs.Added.{place_after}
use Rattle.laws.proofs.TwoTexts.{with-more, told-above, told-below}
use Rattle.laws.proofs.added.answers.Goals.{then-position-added, else-position-added}
use Rattle.laws.proofs.added.answers.Goals as goal

pub returns : goal.returns
returns c =
    let a = c.args in
    let there : answer_to a.second.now a.method c.if-position-added.place ≡ answer_to a.second.now a.method (place_after a.added a.position) =
    elim c.if-position-added.branch [
      | then-position-added w ↦ told-above a.first.now a.second.now a.added a.method a.position _ w.if-position-added.true w.place-is
      | else-position-added w ↦
          told-below a.first.now a.second.now a.added a.method a.position _ 18446744073709551615 w.if-position-added.false (omega arith)
          (w.place-is ∙ w.saturating_add-place.ensures)
    ] in
    with-more a.first.now a.second.now a.added a.method a.position _ c.answer.ensures.value (c.answer-2.ensures.value ∙ there)
