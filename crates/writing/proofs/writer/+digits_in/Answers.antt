-- A digit, and those before it.
use Rattle.std.proofs.Common.{ℕ, ◌/◌, ap, arith, length, length-append}
use Rattle.writing.proofs.Spelling.{spelled_low, spelled_high, spelled_short}
use Rattle.writing.proofs.writer.+digits_in.Goals as goal

pub overflow_add-result : goal.overflow_add-result
overflow_add-result t c = omega (arith, c.digits_in.ensures, spelled_short 19 (c.args.n / 10) (omega arith))

pub returns-then-n-lt10 : goal.returns-then-n-lt10
returns-then-n-lt10 t c = omega (arith, ap length (spelled_low c.args.n (omega arith)))

pub returns-else-n-lt10 : goal.returns-else-n-lt10
returns-else-n-lt10 t c = omega (arith, c.digits_in.ensures, ap length (spelled_high c.args.n (omega arith)), length-append {A = ℕ})
