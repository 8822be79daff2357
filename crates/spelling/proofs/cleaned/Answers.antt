-- What is cleaned is clean, and what is clean already stays as it is.
use Rattle.std.proofs.Common.{◌∙◌, ap, arith}
use Rattle.std.proofs.lemmas.Result.{IfOk-weaker}
use Rattle.spelling.specs.Spelling.{is_clean}
use Rattle.spelling.proofs.Clean.{cleaned_clean, clean_stays}
use Rattle.spelling.proofs.Plain.{clean_plain}
use Rattle.spelling.proofs.cleaned.Goals as goal

pub returns-clause-clean : goal.returns-clause-clean
returns-clause-clean c = IfOk-weaker c.spelled.result _ _ (λ out e. ap is_clean e ∙ cleaned_clean c.args.text.now (λ i. omega (arith, c.type_inv.text i))) c.spelled.ensures

pub returns-clause-kept : goal.returns-clause-kept
returns-clause-kept c = IfOk-weaker c.spelled.result _ _ (λ out e is. e ∙ clean_stays c.args.text.now is) c.spelled.ensures

pub returns-clause-plain : goal.returns-clause-plain
returns-clause-plain c =
    IfOk-weaker c.spelled.result _ _ (λ out e. clean_plain out.items (ap is_clean e ∙ cleaned_clean c.args.text.now (λ i. omega (arith, c.type_inv.text i)))) c.spelled.ensures
