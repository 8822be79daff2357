-- Whether what is claimed of some task is bad, task by task.
use Rattle.std.proofs.Common.{◌≡◌, ℕ, zero, suc, ◌+◌, ◌-◌, ◌<◌, Bool, true, false, ◌||◌, List, [], ◌∷◌, take, refl, arith, ap, ◌∙◌}
use Rattle.std.proofs.Math.Decide.{dec_lt}
use Rattle.std.proofs.lemmas.Bool.{or_left, or_right}
use Rattle.std.proofs.lemmas.List.Folds.{list_any-append}
use Rattle.std.specs.List.{list_any}
use Rattle.search.specs.declared.demand.Response.{Response}
use Rattle.search.specs.Positions.{run}
use Rattle.table.specs.declared.Table.{Table}
use Rattle.analysis.specs.declared.Method.{Method}
use Rattle.claims.specs.Findings.{finding_of}
use Rattle.claims.specs.Told.{claim_at}
use Rattle.claims.proofs.LineLaws.{claim-held}
use Rattle.answered.specs.Answered.{is_bad, has_bad_claim}

module _ (p : ℕ → Bool) where
  next : (n : ℕ) → list_any p (run 0 (suc n)) ≡ (list_any p (run 0 n) || p n)
  unfolding run
  next n =
      let e : 0 + n ≡ n = omega arith in
      list_any-append p (run 0 n) ((0 + n) ∷ []) ∙ ap (λ (k : ℕ). list_any p (run 0 n) || (p k || false)) e ∙ ap (λ (b : Bool). list_any p (run 0 n) || b) (or-false (p n))
    where
      or-false : (b : Bool) → (b || false) ≡ b
      or-false true = refl
      or-false false = refl

  none-in : (n : ℕ) → ((i : ℕ) → i < n → p i ≡ false) → list_any p (run 0 n) ≡ false
  unfolding run
  none-in zero h = refl
  none-in (suc n) h = rw (next n, none-in n (λ i l. h i (omega arith)), h n (omega arith)) refl

  one-in : (n i : ℕ) → i < n → p i ≡ true → list_any p (run 0 n) ≡ true
  one-in zero i l e = absurd (omega arith)
  one-in (suc n) i l e = next n ∙ elim (dec_lt i n) [
    | yes m ↦ or_left (list_any p (run 0 n)) (p n) (one-in n i m e)
    | no m ↦ (let last : n ≡ i = omega arith in or_right (list_any p (run 0 n)) (p n) (ap p last ∙ e))
  ]

module _ (table : Table) (m : Method) (claims : List Response) where
  same : (i : ℕ) → i < table.count → is_bad (finding_of table m i (claim_at (take table.count claims) i)) ≡ is_bad (finding_of table m i (claim_at claims i))
  same i l = ap (λ (claim : Response). is_bad (finding_of table m i claim)) (claim-held claims table.count i l)

  -- none is bad
  pub no-bad-claim : ((i : ℕ) → i < table.count → is_bad (finding_of table m i (claim_at claims i)) ≡ false) → has_bad_claim table m (take table.count claims) ≡ false
  no-bad-claim none =
      none-in (λ i. is_bad (finding_of table m i (claim_at (take table.count claims) i))) (table.count - 0)
      (λ i l. let h : i < table.count = omega arith in same i h ∙ none i h)

  -- or some is
  pub bad-claim : (i : ℕ) → i < table.count → is_bad (finding_of table m i (claim_at claims i)) ≡ true → has_bad_claim table m (take table.count claims) ≡ true
  bad-claim i l bad =
      one-in (λ i. is_bad (finding_of table m i (claim_at (take table.count claims) i))) (table.count - 0) i (omega arith) (same i l ∙ bad)
