-- One digit for each four cache sets, or one for each.
use Rattle.std.proofs.Common.{ℕ, ◌+◌, ap, sym, ◌∙◌}
use Rattle.cache.specs.declared.useful.Form.{Form}
use Rattle.table_text.proofs.Lengths.{useful_length, useful-long}
use Rattle.table_text.proofs.extent.useful_len.Goals as goal

pub returns-in-Hex-clause-is : goal.returns-in-Hex-clause-is
returns-in-Hex-clause-is c = λ u.
    sym (ap (λ (n : ℕ). 1 + n) (useful-long c.args.form c.args.sets u) ∙ ap (λ (f : Form). 1 + useful_length f c.args.sets) c.in-Hex.is)

pub returns-in-Digits-clause-is : goal.returns-in-Digits-clause-is
returns-in-Digits-clause-is c = λ u.
    sym (ap (λ (n : ℕ). 1 + n) (useful-long c.args.form c.args.sets u) ∙ ap (λ (f : Form). 1 + useful_length f c.args.sets) c.in-Digits.is)
