-- What would have been written is clean where there is no memory, too.
use Rattle.std.proofs.Common.{arith}
use Rattle.spelling.specs.Spelling.{cleaned}
use Rattle.spelling.proofs.Plain.{clean_plain}
use Rattle.terminal.specs.Terminal.{message_line}
use Rattle.terminal.proofs.Written.{line_clean}
use Rattle.terminal.proofs.tell.Goals as goal

pub returns-in_err-line-clause-clean : goal.returns-in_err-line-clause-clean
returns-in_err-line-clause-clean g c = line_clean c.args.message.now (λ i. omega (arith, c.type_inv.message i))

pub returns-in_err-line-clause-plain : goal.returns-in_err-line-clause-plain
returns-in_err-line-clause-plain g c = clean_plain (cleaned (message_line c.args.message.now)) (line_clean c.args.message.now (λ i. omega (arith, c.type_inv.message i)))
