-- Parts: each build is in one of them.
use Rattle.std.proofs.Common.{◌≡◌, ℕ, zero, suc, ◌+◌, ◌%◌, ◌<◌, ◌≤◌, ◌⊎◌, inl, inr, ⊎_elim, Bool, true, false, cond, eqb, eqb-true, eq-eqb, List, [], ◌∷◌, ◌++◌, map, flat_map, IsPermutation, refl, sym, ap, subst, ◌∙◌, arith, mod-lt, mod-eq_of_lt}
use Rattle.std.proofs.Math.Decide.{dec_lt}
use Rattle.std.proofs.Math.Nat.{mod_self}
use Rattle.std.proofs.lemmas.List.{map-append}
use Rattle.std.proofs.lemmas.List.Sorted.{IsPermutation-refl, IsPermutation-sym, IsPermutation-trans, IsPermutation-cons, IsPermutation-middle, IsPermutation-append_right, IsPermutation-map}
use Rattle.lists.specs.Lists.{list_line}
use Rattle.spelling.specs.Spelling.{spelled_out}
use Rattle.lists.specs.Together.{together}
use Rattle.lists.proofs.Lists.{together-parts}
use Rattle.builds.specs.Runs.{in_part, part_from, part_of, numbers_to, SharedOut}

abbrev one : Bool → ℕ
one true = 1
one false = 0

-- ---- of the numbers from 1 to n one is that of the part of a place

abbrev hits : ℕ → ℕ → List ℕ → ℕ
hits of place [] = 0
hits of place (k ∷ ks) = one (in_part k of place) + hits of place ks

hits-more : (of place : ℕ) (ks : List ℕ) (k : ℕ) → hits of place (ks ++ k ∷ []) ≡ hits of place ks + one (in_part k of place)
hits-more of place [] k = omega arith
hits-more of place (j ∷ ks) k = omega (arith, hits-more of place ks k)

not-hit : (a b : ℕ) → (a ≡ b → ⊥) → one (eqb a b) ≡ 0
not-hit a b n = go (eqb a b) refl
  where
    go : (t : Bool) → eqb a b ≡ t → one t ≡ 0
    go true e = absurd (n (eqb-true a b e))
    go false e = refl

hit : (a b : ℕ) → a ≡ b → one (eqb a b) ≡ 1
hit a b e = ap one (eq-eqb a b e)

module _ (of place : ℕ) where
  low-none : (m : ℕ) → m < of → (place % of ≡ 0) ⊎ (m < place % of) → hits of place (numbers_to m) ≡ 0
  low-none zero l h = refl
  low-none (suc m) l h =
      let small : suc m % of ≡ suc m = mod-eq_of_lt l in
      let here : one (in_part (suc m) of place) ≡ 0 = not-hit (place % of) (suc m % of) (λ e. ⊎_elim (λ z. absurd (omega (arith, e, z, small))) (λ g. absurd (omega (arith, e, g, small))) h) in
      let before = low-none m (omega arith) (⊎_elim (λ z. inl z) (λ g. inr (omega (arith, g))) h) in
      omega (arith, hits-more of place (numbers_to m) (suc m), here, before)

  low-one : (m : ℕ) → m < of → 0 < place % of → place % of ≤ m → hits of place (numbers_to m) ≡ 1
  low-one zero l p h = absurd (omega arith)
  low-one (suc m) l p h =
      let small : suc m % of ≡ suc m = mod-eq_of_lt l in
      elim (dec_lt (place % of) (suc m)) [
        | yes less ↦
            let here : one (in_part (suc m) of place) ≡ 0 = not-hit (place % of) (suc m % of) (λ e. omega (arith, e, small, less)) in
            omega (arith, hits-more of place (numbers_to m) (suc m), here, low-one m (omega arith) p (omega (arith, less)))
        | no more ↦
            let here : one (in_part (suc m) of place) ≡ 1 = hit (place % of) (suc m % of) (omega (arith, small, more, h)) in
            omega (arith, hits-more of place (numbers_to m) (suc m), here, low-none m (omega arith) (inr (omega (arith, more))))
      ]

hits-one : (n place : ℕ) → hits (suc n) place (numbers_to (suc n)) ≡ 1
hits-one n place =
    let below : place % suc n < suc n = mod-lt place (omega arith) in
    let whole : suc n % suc n ≡ 0 = mod_self (suc n) in
    elim (dec_lt 0 (place % suc n)) [
      | yes some ↦
          let here : one (in_part (suc n) (suc n) place) ≡ 0 = not-hit (place % suc n) (suc n % suc n) (λ e. omega (arith, e, whole, some)) in
          omega (arith, hits-more (suc n) place (numbers_to n) (suc n), here, low-one (suc n) place n (omega arith) some (omega (arith, below)))
      | no none ↦
          let here : one (in_part (suc n) (suc n) place) ≡ 1 = hit (place % suc n) (suc n % suc n) (omega (arith, whole, none)) in
          omega (arith, hits-more (suc n) place (numbers_to n) (suc n), here, low-none (suc n) place n (omega arith) (inl (omega (arith, none))))
    ]

-- ---- a build more

abbrev shares : ℕ → ℕ → List (List ℕ) → List ℕ → List (List ℕ)
shares of place ws ks = flat_map (λ k. part_from k of place ws) ks

share-none : (of place : ℕ) (w : List ℕ) (ws : List (List ℕ)) (ks : List ℕ) → hits of place ks ≡ 0 → shares of place (w ∷ ws) ks ≡ shares of (place + 1) ws ks
unfolding part_from
share-none of place w ws [] h = refl
share-none of place w ws (k ∷ ks) h = go (in_part k of place) h (share-none of place w ws ks)
  where
    X : List (List ℕ)
    X = part_from k of (place + 1) ws

    go : (t : Bool) → one t + hits of place ks ≡ 0 → (hits of place ks ≡ 0 → shares of place (w ∷ ws) ks ≡ shares of (place + 1) ws ks)
        → cond t (w ∷ X) X ++ shares of place (w ∷ ws) ks ≡ X ++ shares of (place + 1) ws ks
    go true e f = absurd (omega (arith, e))
    go false e f = ap (λ (l : List (List ℕ)). X ++ l) (f (omega (arith, e)))

share-one : (of place : ℕ) (w : List ℕ) (ws : List (List ℕ)) (ks : List ℕ) → hits of place ks ≡ 1 → IsPermutation (w ∷ shares of (place + 1) ws ks) (shares of place (w ∷ ws) ks)
unfolding part_from
share-one of place w ws [] h = absurd (omega (arith, h))
share-one of place w ws (k ∷ ks) h = go (in_part k of place) h (share-none of place w ws ks) (share-one of place w ws ks)
  where
    X : List (List ℕ)
    X = part_from k of (place + 1) ws

    S : List (List ℕ)
    S = shares of place (w ∷ ws) ks

    R : List (List ℕ)
    R = shares of (place + 1) ws ks

    go : (t : Bool) → one t + hits of place ks ≡ 1 → (hits of place ks ≡ 0 → S ≡ R) → (hits of place ks ≡ 1 → IsPermutation (w ∷ R) S) → IsPermutation (w ∷ (X ++ R)) (cond t (w ∷ X) X ++ S)
    go true e f g = subst (λ (l : List (List ℕ)). IsPermutation (w ∷ (X ++ R)) (w ∷ (X ++ l))) (sym (f (omega (arith, e)))) (IsPermutation-refl (w ∷ (X ++ R)))
    go false e f g = IsPermutation-trans _ _ _ (IsPermutation-sym _ _ (IsPermutation-middle X w R)) (IsPermutation-append_right X _ _ (g (omega (arith, e))))

no-share : (of place : ℕ) (ks : List ℕ) → shares of place [] ks ≡ []
unfolding part_from
no-share of place [] = refl
no-share of place (k ∷ ks) = no-share of place ks

shared : (n place : ℕ) (ws : List (List ℕ)) → IsPermutation ws (shares (suc n) place ws (numbers_to (suc n)))
shared n place [] = subst (IsPermutation []) (sym (no-share (suc n) place (numbers_to (suc n)))) (IsPermutation-refl [])
shared n place (w ∷ ws) =
    IsPermutation-trans _ _ _ (IsPermutation-cons w _ _ (shared n (place + 1) ws)) (share-one (suc n) place w ws (numbers_to (suc n)) (hits-one n place))

-- ---- and their lists make one list

parts-lines : (f : List ℕ → List ℕ) (g : ℕ → List (List ℕ)) (ks : List ℕ) → flat_map (λ p. p) (map (λ k. map f (g k)) ks) ≡ map f (flat_map g ks)
parts-lines f g [] = refl
parts-lines f g (k ∷ ks) = ap (λ (l : List (List ℕ)). map f (g k) ++ l) (parts-lines f g ks) ∙ sym (map-append f (g k) (flat_map g ks))

parts-lists : (f : List ℕ → List ℕ) (g : ℕ → List (List ℕ)) (ks : List ℕ) → map (λ k. together (map f (g k))) ks ≡ map together (map (λ k. map f (g k)) ks)
parts-lists f g [] = refl
parts-lists f g (k ∷ ks) = ap (λ (l : List (List ℕ)). together (map f (g k)) ∷ l) (parts-lists f g ks)

pub shared-out : (of : ℕ) (ways : List (List ℕ)) → 0 < of → SharedOut of ways
shared-out zero ways p = absurd (omega arith)
shared-out (suc n) ways p =
    let all = shared n 1 ways in record {
      each = all;
      list = λ fate.
          let f : List ℕ → List ℕ = λ w. list_line (spelled_out w) (fate w) in
          let g : ℕ → List (List ℕ) = λ k. part_of k (suc n) ways in
          let lines : IsPermutation (map f ways) (flat_map (λ p. p) (map (λ k. map f (g k)) (numbers_to (suc n)))) =
          subst (IsPermutation (map f ways)) (sym (parts-lines f g (numbers_to (suc n)))) (IsPermutation-map f ways _ all) in
          together-parts _ (map f ways) (map (λ k. map f (g k)) (numbers_to (suc n))) lines (parts-lists f g (numbers_to (suc n)));
    }
