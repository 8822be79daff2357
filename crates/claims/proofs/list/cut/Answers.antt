-- `list::cut` meets its contract: the fields are counted, one after the other.
use Rattle.std.proofs.Common.{ℕ, List, ◌≡◌, true, [], ◌∷◌, arith, ap, length, sym, ◌∙◌, refl, codes}
use Rattle.std.proofs.lemmas.Bool.{false≢true, not-true, not-false}
use Rattle.std.specs.Str.{bytes_eq}
use Rattle.texts.specs.Cut.{fields}
use Rattle.texts.proofs.Shapes.{no-length, other_count, other_letter, shaped}
use Rattle.claims.proofs.list.cut.Goals as goal

pub returns-in_err-next : goal.returns-in_err-next
returns-in_err-next c = rw c.from_residual.ensures (other_count (codes "R") 3 _ (λ n. omega (arith, n, ap length c.of-fields.ensures, ap length c.in_err-next.ensures.steps.0)))

pub returns-in_err-name : goal.returns-in_err-name
returns-in_err-name c = rw c.from_residual-in_err-name.ensures (other_count (codes "R") 3 _ (λ n. omega (arith, n, ap length c.of-fields.ensures, ap length c.in_ok-next.ensures.steps, ap length c.in_err-name.ensures.steps.0)))

pub returns-in_err-claim : goal.returns-in_err-claim
returns-in_err-claim c = rw c.from_residual-in_err-claim.ensures (other_count (codes "R") 3 _ (λ n. omega (arith, n, ap length c.of-fields.ensures, ap length c.in_ok-next.ensures.steps, ap length c.in_ok-name.ensures.steps, ap length c.in_err-claim.ensures.steps.0)))

pub returns-then-ne : goal.returns-then-ne
returns-then-ne c = other_letter (codes "R") 3 _ _ _ (sym c.of-fields.ensures ∙ c.in_ok-next.ensures.steps) (rw (← c.as_slice.ensures) (not-true _ (sym c.ne.ensures ∙ c.if-ne.true)))

abbrev Lines : Type 0
Lines = List (List ℕ)

pub returns-then-is_done : goal.returns-then-is_done
returns-then-is_done c =
    let e : fields c.args.line.now ≡ c.in_ok-next.field-0.now ∷ c.in_ok-name.name.now ∷ c.in_ok-claim.claim.now ∷ [] =
    sym c.of-fields.ensures ∙ c.in_ok-next.ensures.steps
    ∙ ap (λ (l : Lines). c.in_ok-next.field-0.now ∷ l) (c.in_ok-name.ensures.steps
    ∙ ap (λ (l : Lines). c.in_ok-name.name.now ∷ l) (c.in_ok-claim.ensures.steps
    ∙ ap (λ (l : Lines). c.in_ok-claim.claim.now ∷ l) (c.is_done.ensures.0 c.if-is_done.true))) in
    let same : bytes_eq c.in_ok-next.field-0.now (codes "R") ≡ true = rw (← c.as_slice.ensures) (not-false _ (sym c.ne.ensures ∙ c.if-ne.false)) in
    record { shaped = shaped (codes "R") 3 _ _ _ e same refl; name = rw e; claim = rw e }

pub returns-else-is_done : goal.returns-else-is_done
returns-else-is_done c =
    other_count (codes "R") 3 _
    (λ n. let empty : c.next-3.new.self ≡ [] = no-length _ (omega (arith, n, ap length c.of-fields.ensures, ap length c.in_ok-next.ensures.steps, ap length c.in_ok-name.ensures.steps, ap length c.in_ok-claim.ensures.steps)) in
    false≢true (sym c.if-is_done.false ∙ c.is_done.ensures.1 empty))
