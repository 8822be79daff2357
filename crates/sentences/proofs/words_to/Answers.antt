-- By what is read.
use Rattle.std.proofs.Common.{◌≡◌, sym, subst, ◌∙◌, IfOk}
use Rattle.endings.specs.Answered.{unless_refused}
use Rattle.sentences.proofs.Texts.{words-read}
use Rattle.sentences.proofs.words_to.Goals as goal

pub returns-in-Ok : goal.returns-in-Ok
returns-in-Ok c =
    subst (λ words. IfOk c.words_at.result (λ out. out.items ≡ unless_refused (λ bytes. bytes) words))
    (words-read c.args.text.now c.args.method c.args.position c.in-Some.method (sym c.from_number.ensures ∙ c.in-Some.is) c.in-Ok.accepted.table.now c.in-Ok.ensures)
    c.words_at.ensures
