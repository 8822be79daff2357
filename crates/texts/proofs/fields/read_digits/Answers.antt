use Rattle.std.proofs.Common.{◌-◌, get_or, arith}
use Rattle.texts.proofs.Numbers.{digits_step, digits-stop, digits-end, more-digits, digit-bounds}
use Rattle.texts.proofs.fields.read_digits.Goals as goal

pub returns-then-not-is_ascii_digit : goal.returns-then-not-is_ascii_digit
returns-then-not-is_ascii_digit c = grind (arith, digits-stop)

pub loop-b-preserved : goal.loop-b-preserved
loop-b-preserved c = grind (arith, digits_step, more-digits c.loop-b.v (get_or c.args.f.now c.loop-b.b-index 0 - 48) c.loop-b.b-index, digit-bounds)

pub returns : goal.returns
returns c = grind (arith, digits-end)
