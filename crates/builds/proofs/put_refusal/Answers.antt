-- The line of a refusal fits.
use Rattle.std.proofs.Common.{ℕ, ap, length, length-append, arith, rules}
use Rattle.writing.proofs.Deliveries.{error-short}
use Rattle.builds.proofs.put_refusal.Goals as goal

pub write_error-requires : goal.write_error-requires
write_error-requires c = omega (arith, error-short c.args.refusal (search rules), ap length c.new-draft.ensures)

pub put-requires : goal.put-requires
put-requires c =
    omega (arith, error-short c.args.refusal (search rules), ap length c.text.ensures, ap length c.write_error.ensures, ap length c.new-draft.ensures, length-append {A = ℕ})
