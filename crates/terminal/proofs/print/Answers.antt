-- What would have been written is clean where there is no memory, too.
use Rattle.std.proofs.Common.{arith}
use Rattle.spelling.specs.Spelling.{cleaned}
use Rattle.spelling.proofs.Clean.{cleaned_clean}
use Rattle.spelling.proofs.Plain.{clean_plain}
use Rattle.terminal.proofs.print.Goals as goal

pub returns-in_err-clean-clause-clean : goal.returns-in_err-clean-clause-clean
returns-in_err-clean-clause-clean g c = cleaned_clean c.args.text.now (λ i. omega (arith, c.type_inv.text i))

pub returns-in_err-clean-clause-plain : goal.returns-in_err-clean-clause-plain
returns-in_err-clean-clause-plain g c = clean_plain (cleaned c.args.text.now) (cleaned_clean c.args.text.now (λ i. omega (arith, c.type_inv.text i)))
