use Rattle.std.proofs.Common.{ℕ, List, ◌≡◌, true, [], ◌∷◌, inl, inr, arith, ap, length, sym, ◌∙◌, refl, codes}
use Rattle.std.proofs.lemmas.Bool.{false≢true, not-true, not-false}
use Rattle.std.specs.Str.{bytes_eq}
use Rattle.texts.specs.Cut.{fields}
use Rattle.texts.proofs.Shapes.{no-length}
use Rattle.table.proofs.HeadShapes.{head-count, head-letter, head-shaped}
use Rattle.table.proofs.tasks.head.cut.Goals as goal

pub returns-in_err-next : goal.returns-in_err-next
returns-in_err-next c = rw c.from_residual.ensures (head-count _ (omega (arith, ap length c.of-fields.ensures, ap length c.in_err-next.ensures.steps.0)))

pub returns-in_err-sets : goal.returns-in_err-sets
returns-in_err-sets c = rw c.from_residual-in_err-sets.ensures (head-count _ (omega (arith, ap length c.of-fields.ensures, ap length c.in_ok-next.ensures.steps, ap length c.in_err-sets.ensures.steps.0)))

pub returns-in_err-brt : goal.returns-in_err-brt
returns-in_err-brt c = rw c.from_residual-in_err-brt.ensures (head-count _ (omega (arith, ap length c.of-fields.ensures, ap length c.in_ok-next.ensures.steps, ap length c.in_ok-sets.ensures.steps, ap length c.in_err-brt.ensures.steps.0)))

pub returns-then-ne : goal.returns-then-ne
returns-then-ne c = head-letter _ _ _ (sym c.of-fields.ensures ∙ c.in_ok-next.ensures.steps) (rw (← c.as_slice.ensures) (not-true _ (sym c.ne.ensures ∙ c.if-ne.true)))

abbrev Lines : Type 0
Lines = List (List ℕ)

pub returns-in_default : goal.returns-in_default
returns-in_default c =
    let e : fields c.args.line.now ≡ c.in_ok-next.field-0.now ∷ c.in_ok-sets.sets.now ∷ c.in_ok-brt.brt.now ∷ [] =
    sym c.of-fields.ensures ∙ c.in_ok-next.ensures.steps
    ∙ ap (λ (l : Lines). c.in_ok-next.field-0.now ∷ l) (c.in_ok-sets.ensures.steps
    ∙ ap (λ (l : Lines). c.in_ok-sets.sets.now ∷ l) (c.in_ok-brt.ensures.steps
    ∙ ap (λ (l : Lines). c.in_ok-brt.brt.now ∷ l) c.in_default.ensures.steps.0)) in
    let same : bytes_eq c.in_ok-next.field-0.now (codes "K") ≡ true = rw (← c.as_slice.ensures) (not-false _ (sym c.ne.ensures ∙ c.if-ne.false)) in
    record { shaped = head-shaped _ _ _ e same (inl refl); sets = rw e; brt = rw e; ways = rw e }

pub returns-then-is_done : goal.returns-then-is_done
returns-then-is_done c =
    let e : fields c.args.line.now ≡ c.in_ok-next.field-0.now ∷ c.in_ok-sets.sets.now ∷ c.in_ok-brt.brt.now ∷ c.in-Some.ways.now ∷ [] =
    sym c.of-fields.ensures ∙ c.in_ok-next.ensures.steps
    ∙ ap (λ (l : Lines). c.in_ok-next.field-0.now ∷ l) (c.in_ok-sets.ensures.steps
    ∙ ap (λ (l : Lines). c.in_ok-sets.sets.now ∷ l) (c.in_ok-brt.ensures.steps
    ∙ ap (λ (l : Lines). c.in_ok-brt.brt.now ∷ l) (c.in-Some.ensures.steps
    ∙ ap (λ (l : Lines). c.in-Some.ways.now ∷ l) (c.is_done.ensures.0 c.if-is_done.true)))) in
    let same : bytes_eq c.in_ok-next.field-0.now (codes "K") ≡ true = rw (← c.as_slice.ensures) (not-false _ (sym c.ne.ensures ∙ c.if-ne.false)) in
    record { shaped = head-shaped _ _ _ e same (inr refl); sets = rw e; brt = rw e; ways = rw e }

pub returns-else-is_done : goal.returns-else-is_done
returns-else-is_done c =
    head-count _ (
      λ n. omega (arith, n, ap length c.of-fields.ensures, ap length c.in_ok-next.ensures.steps, ap length c.in_ok-sets.ensures.steps, ap length c.in_ok-brt.ensures.steps, ap length c.in-Some.ensures.steps),
      λ n. let empty : c.next-4.new.self ≡ [] = no-length _ (omega (arith, n, ap length c.of-fields.ensures, ap length c.in_ok-next.ensures.steps, ap length c.in_ok-sets.ensures.steps, ap length c.in_ok-brt.ensures.steps, ap length c.in-Some.ensures.steps)) in
          false≢true (sym c.if-is_done.false ∙ c.is_done.ensures.1 empty),
    )
