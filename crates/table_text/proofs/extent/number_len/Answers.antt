-- No number of 64 bits has more than 20 digits.
use Rattle.std.proofs.Common.{arith}
use Rattle.writing.proofs.Spelling.{spelled_short}
use Rattle.table_text.proofs.extent.number_len.Goals as goal

pub overflow_add-result : goal.overflow_add-result
overflow_add-result c = omega (arith, spelled_short 19 c.args.n (omega arith))

pub returns-clause-few : goal.returns-clause-few
returns-clause-few c = omega (arith, spelled_short 19 c.args.n (omega arith))
