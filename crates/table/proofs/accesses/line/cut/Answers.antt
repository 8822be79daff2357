use Rattle.std.proofs.Common.{◌≡◌, [], ◌∷◌, arith, ap, length, sym, ◌∙◌}
use Rattle.std.proofs.lemmas.Bool.{false≢true}
use Rattle.texts.specs.Cut.{fields}
use Rattle.texts.proofs.Shapes.{other_number, no-length}
use Rattle.table.proofs.accesses.line.cut.Goals as goal

pub returns-in_err-next : goal.returns-in_err-next
returns-in_err-next c = rw c.from_residual.ensures (other_number 5 c.args.line.now (λ n. omega (arith, n, ap length c.of-fields.ensures, ap length c.in_err-next.ensures.steps.0)))

pub returns-in_err-next-2 : goal.returns-in_err-next-2
returns-in_err-next-2 c = rw c.from_residual-in_err-next-2.ensures (other_number 5 c.args.line.now (λ n. omega (arith, n, ap length c.of-fields.ensures, ap length c.in_ok-next.ensures.steps, ap length c.in_err-next-2.ensures.steps.0)))

pub returns-in_err-next-3 : goal.returns-in_err-next-3
returns-in_err-next-3 c = rw c.from_residual-in_err-next-3.ensures (other_number 5 c.args.line.now (λ n. omega (arith, n, ap length c.of-fields.ensures, ap length c.in_ok-next.ensures.steps, ap length c.in_ok-next-2.ensures.steps, ap length c.in_err-next-3.ensures.steps.0)))

pub returns-in_err-next-4 : goal.returns-in_err-next-4
returns-in_err-next-4 c = rw c.from_residual-in_err-next-4.ensures (other_number 5 c.args.line.now (λ n. omega (arith, n, ap length c.of-fields.ensures, ap length c.in_ok-next.ensures.steps, ap length c.in_ok-next-2.ensures.steps, ap length c.in_ok-next-3.ensures.steps, ap length c.in_err-next-4.ensures.steps.0)))

pub returns-in_err-next-5 : goal.returns-in_err-next-5
returns-in_err-next-5 c = rw c.from_residual-in_err-next-5.ensures (other_number 5 c.args.line.now (λ n. omega (arith, n, ap length c.of-fields.ensures, ap length c.in_ok-next.ensures.steps, ap length c.in_ok-next-2.ensures.steps, ap length c.in_ok-next-3.ensures.steps, ap length c.in_ok-next-4.ensures.steps, ap length c.in_err-next-5.ensures.steps.0)))

pub returns-then-is_done : goal.returns-then-is_done
returns-then-is_done c =
    let e : fields c.args.line.now ≡ c.in_ok-next.field-0.now ∷ c.in_ok-next-2.field-0.now ∷ c.in_ok-next-3.field-0.now ∷ c.in_ok-next-4.field-0.now ∷ c.in_ok-next-5.field-0.now ∷ [] = cc (c.in_ok-next.ensures.steps, c.in_ok-next-2.ensures.steps, c.in_ok-next-3.ensures.steps, c.in_ok-next-4.ensures.steps, c.in_ok-next-5.ensures.steps, c.is_done.ensures.0 c.if-is_done.true) in
    record { five = rw e; task = rw e; ceiling = rw e; lasts = rw e; ucb = rw e }

pub returns-else-is_done : goal.returns-else-is_done
returns-else-is_done c =
    other_number 5 c.args.line.now
    (λ n. let empty : c.next-5.new.self ≡ [] = no-length _ (omega (arith, n, ap length c.of-fields.ensures, ap length c.in_ok-next.ensures.steps, ap length c.in_ok-next-2.ensures.steps, ap length c.in_ok-next-3.ensures.steps, ap length c.in_ok-next-4.ensures.steps, ap length c.in_ok-next-5.ensures.steps)) in
    false≢true (sym c.if-is_done.false ∙ c.is_done.ensures.1 empty))
