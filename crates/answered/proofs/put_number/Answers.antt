-- A number's line always fits.
use Rattle.std.proofs.Common.{ℕ, ap, length, length-append, arith, rules}
use Rattle.answered.proofs.Lines.{number_fits}
use Rattle.answered.proofs.put_number.Goals as goal

pub put-requires : goal.put-requires
put-requires c = omega (arith, number_fits c.args.n (search rules), ap length c.text.ensures, ap length c.push.ensures, ap length c.write.ensures, ap length c.new-draft.ensures, length-append {A = ℕ})
