-- Facts about lists that are filled from the front.
use Rattle.std.proofs.Common.{ℕ, suc, ◌+◌, ◌-◌, ◌≤◌, ◌<◌, arith, ◌≡◌, refl, sym, ap, ap₂, ◌∙◌, List, ◌++◌, map, length, get_or, set, replicate, length-append}
use Rattle.std.proofs.Math.ListN.{get_or-append}
use Rattle.std.proofs.Math.Seq.{append_snoc}
use Rattle.std.proofs.lemmas.List.{length-map, length-replicate, set_at}
use Rattle.search.specs.Positions.{run, hp, front}
use Rattle.search.proofs.PositionLaws.{run_long, map_next, map_at, map_same}

module _ {A : Type 0} (z : A) (f : ℕ → A) where
  pub front-none : replicate 32 z ≡ front z f 0
  unfolding front run
  front-none = refl

  pub front-next : (j : ℕ) (v : A) → j < 32 → v ≡ f j → set (front z f j) j v ≡ front z f (j + 1)
  unfolding front
  front-next j v h e =
      let n : 32 - j ≡ suc (32 - (j + 1)) = omega arith in
      ap₂ (λ (k : ℕ) (x : A). set (map f (hp j) ++ replicate k z) j x) n e
      ∙ set_at (map f (hp j)) z (replicate (32 - (j + 1)) z) (f j) j (length-map (hp j) f ∙ run_long 0 (j - 0) ∙ omega arith)
      ∙ sym (append_snoc (map f (hp j)) (f j) (replicate (32 - (j + 1)) z))
      ∙ ap (λ (xs : List A). xs ++ replicate (32 - (j + 1)) z) (sym (map_next f j))

  pub front_at : (i j : ℕ) (d : A) → j < i → get_or (front z f i) j d ≡ f j
  unfolding front
  front_at i j d h =
      get_or-append (map f (hp i)) (replicate (32 - i) z) d j (omega (arith, length-map (hp i) f ∙ run_long 0 (i - 0))) ∙ map_at f i j d h

  pub front_long : (i : ℕ) → i ≤ 32 → length (front z f i) ≡ 32
  unfolding front
  front_long i h =
      length-append (map f (hp i)) (replicate (32 - i) z)
      ∙ omega (arith, length-map (hp i) f ∙ run_long 0 (i - 0), length-replicate {A = A} (32 - i) z)

  pub front_same : (g : ℕ → A) (n : ℕ) → ((k : ℕ) → k < n → f k ≡ g k) → front z f n ≡ front z g n
  unfolding front
  front_same g n h = ap (λ (xs : List A). xs ++ replicate (32 - n) z) (map_same f g n h)
