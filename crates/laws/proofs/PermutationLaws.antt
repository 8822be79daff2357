-- Laws of lists in any order: what a permutation is in other words, and that what is gathered over a list by an operation that is commutative and
-- associative does not depend on the order.
use Rattle.std.proofs.Common.{ℕ, zero, suc, ◌+◌, ◌-◌, ◌≤◌, ◌<◌, arith, ◌≡◌, refl, sym, ap, ap₂, ◌∙◌, Bool, true, false, cond, ◌↔◌, List, [], ◌∷◌, ◌++◌, eqb, eq-eqb, ne_eqb, eqb-true}
use Rattle.std.proofs.Math.Decide.{dec_lt}
use Rattle.std.proofs.Math.Logic.{∥∥₁_elim}
use Rattle.std.proofs.Math.Nat.{ℕ_set}
use mathlib.Core.List.Permᴰ
use mathlib.Core.List.{Perm, Permᴰ}
use Rattle.search.specs.Positions.{run, between, fold_by}
use Rattle.laws.specs.Permutations.{times_in, Permutation, EachOnce, Unordered}

-- ---- the first of those that are equal to x, taken out

without : ℕ → List ℕ → List ℕ
without x [] = []
without x (k ∷ ks) = cond (eqb x k) ks (k ∷ without x ks)

times-without : (x : ℕ) (ks : List ℕ) → 1 ≤ times_in x ks → (y : ℕ) → cond (eqb y x) 1 0 + times_in y (without x ks) ≡ times_in y ks
unfolding times_in without
times-without x [] h y = absurd (omega arith)
times-without x (k ∷ ks) h y = go (eqb x k) refl (times-without x ks)
  where
    go : (t : Bool) → eqb x k ≡ t → (1 ≤ times_in x ks → (y : ℕ) → cond (eqb y x) 1 0 + times_in y (without x ks) ≡ times_in y ks)
        → cond (eqb y x) 1 0 + times_in y (cond t ks (k ∷ without x ks)) ≡ cond (eqb y k) 1 0 + times_in y ks
    go true e rest = ap (λ (z : ℕ). cond (eqb y z) 1 0 + times_in y ks) (eqb-true x k e)
    go false e rest = let some : 1 ≤ cond false 1 0 + times_in x ks = rw e at h in omega (arith, rest (omega arith) y)

-- ---- a permutation is what the kit's library calls one: neighbours change places, as often as need be

put_back : (x : ℕ) (ks : List ℕ) → 1 ≤ times_in x ks → Permᴰ (x ∷ without x ks) ks
unfolding times_in without
put_back x [] h = absurd (omega arith)
put_back x (k ∷ ks) h = go (eqb x k) refl (put_back x ks)
  where
    go : (t : Bool) → eqb x k ≡ t → (1 ≤ times_in x ks → Permᴰ (x ∷ without x ks) ks)
        → Permᴰ (x ∷ cond t ks (k ∷ without x ks)) (k ∷ ks)
    go true e rest = Permᴰ.cons (eqb-true x k e) (Permᴰ.refl ks)
    go false e rest =
        let some : 1 ≤ cond false 1 0 + times_in x ks = rw e at h in
        Permᴰ.trans (Permᴰ.swap refl refl) (Permᴰ.cons refl (rest (omega arith)))

times-self : (x : ℕ) (ks : List ℕ) → times_in x (x ∷ ks) ≡ 1 + times_in x ks
unfolding times_in
times-self x ks = ap (λ (t : Bool). cond t 1 0 + times_in x ks) (eq-eqb x x refl)

steps : (ks ls : List ℕ) → Permutation ks ls → Permᴰ ks ls
unfolding times_in
steps [] [] p = Permᴰ.nil
steps [] (l ∷ ls) p = absurd (omega (arith, p l, times-self l ls))
steps (k ∷ ks) ls p =
    let some : 1 ≤ times_in k ls = omega (arith, p k, times-self k ks) in
    Permᴰ.trans (Permᴰ.cons refl (steps ks (without k ls) (λ y. omega (arith, p y, times-without k ls some y)))) (put_back k ls some)

times-kept : (x : ℕ) {ks ls : List ℕ} → Permᴰ ks ls → times_in x ks ≡ times_in x ls
unfolding times_in
times-kept x Permᴰ.nil = refl
times-kept x (Permᴰ.cons e d) = ap₂ (λ (k n : ℕ). cond (eqb x k) 1 0 + n) e (times-kept x d)
times-kept x (Permᴰ.swap {l = l} e f) =
    ap₂ (λ (k m : ℕ). cond (eqb x k) 1 0 + (cond (eqb x m) 1 0 + times_in x l)) e f ∙ omega arith
times-kept x (Permᴰ.trans d e) = times-kept x d ∙ times-kept x e

pub permutation-is : (ks ls : List ℕ) → Permutation ks ls ↔ Perm ks ls
permutation-is ks ls = ((λ p. ∣ steps ks ls p ∣₁), (λ q x. ∥∥₁_elim q (ℕ_set (times_in x ks) (times_in x ls)) (times-kept x)))

-- ---- a permutation of the positions from one to another has each of them once, and none else

times-append : (x : ℕ) (ks ls : List ℕ) → times_in x (ks ++ ls) ≡ times_in x ks + times_in x ls
unfolding times_in
times-append x [] ls = omega arith
times-append x (k ∷ ks) ls = omega (arith, times-append x ks ls)

run-once : (from n : ℕ) → EachOnce from (from + n) (run from n)
unfolding run times_in
run-once from zero = record { once = λ k h l. absurd (omega arith); no_other = λ k h. refl }
run-once from (suc n) =
    let last = from + n in
    let rest = run-once from n in
    let more : (k : ℕ) → times_in k (run from n ++ (last ∷ [])) ≡ times_in k (run from n) + times_in k (last ∷ []) = λ k. times-append k (run from n) (last ∷ []) in
    let other : (k : ℕ) → (k ≡ last → ⊥) → times_in k (last ∷ []) ≡ 0 = λ k h. ap (λ (t : Bool). cond t 1 0 + 0) (ne_eqb k last h) in
    record {
      once = λ k h l. elim (dec_lt k last) [
        | yes m ↦ omega (arith, more k, rest.once k h m, other k (λ e. omega arith))
        | no m ↦
            let e : k ≡ last = omega arith in
            rw e (omega (arith, more last, rest.no_other last (λ a b. omega arith), times-self last []))
      ];
      no_other = λ k h.
          omega (arith, more k, rest.no_other k (λ a b. h a (omega arith)), other k (λ e. h (omega arith) (omega arith)));
    }

pub between-once : (from to : ℕ) → from ≤ to → EachOnce from to (between from to)
between-once from to h = let e : from + (to - from) ≡ to = omega arith in rw e at (run-once from (to - from))

module _ (from to : ℕ) (h : from ≤ to) (ks : List ℕ) where
  listed : EachOnce from to (between from to)
  listed = between-once from to h

  pub permutation-once : Permutation ks (between from to) → EachOnce from to ks
  permutation-once p = record { once = λ k l m. p k ∙ listed.once k l m; no_other = λ k n. p k ∙ listed.no_other k n }

  pub once-permutation : EachOnce from to ks → Permutation ks (between from to)
  once-permutation p k = elim (dec_lt k from) [
    | yes l ↦ other (λ a b. omega arith)
    | no l ↦ elim (dec_lt k to) [
      | yes m ↦ p.once k (omega arith) m ∙ sym (listed.once k (omega arith) m)
      | no m ↦ other (λ a b. omega arith)
    ]
  ]
    where
      other : (from ≤ k → k < to → ⊥) → times_in k ks ≡ times_in k (between from to)
      other n = p.no_other k n ∙ sym (listed.no_other k n)

-- ---- what is gathered over a list, by an operation that is unordered

module _ {B : Type 0} {op : B → B → B} (free : Unordered op) where
  exchanged : (z a b : B) → op (op z a) b ≡ op (op z b) a
  exchanged z a b = free.assoc z a b ∙ ap (op z) (free.comm a b) ∙ sym (free.assoc z b a)

  fold-kept : (z : B) (F : ℕ → B) {ks ls : List ℕ} → Permᴰ ks ls → fold_by op z F ks ≡ fold_by op z F ls
  unfolding fold_by
  fold-kept z F Permᴰ.nil = refl
  fold-kept z F (Permᴰ.cons {a = a} {l₂ = l₂} e d) = fold-kept (op z (F a)) F d ∙ ap (λ (k : ℕ). fold_by op (op z (F k)) F l₂) e
  fold-kept z F (Permᴰ.swap {a = a} {b = b} {l = l} e f) =
      ap (λ (x : B). fold_by op x F l) (exchanged z (F a) (F b)) ∙ ap₂ (λ (k m : ℕ). fold_by op (op (op z (F k)) (F m)) F l) f e
  fold-kept z F (Permᴰ.trans d e) = fold-kept z F d ∙ fold-kept z F e

  pub fold-any-order : (z : B) (F : ℕ → B) (ks ls : List ℕ) → Permutation ks ls → fold_by op z F ks ≡ fold_by op z F ls
  fold-any-order z F ks ls p = fold-kept z F (steps ks ls p)
