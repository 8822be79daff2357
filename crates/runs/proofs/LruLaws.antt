-- A cache set with LRU replacement, by the ages of the blocks.
use Prim.Native.Nat.{ℕ, zero, suc, ◌+◌, ◌-◌, ◌≤◌, ◌<◌}
use native.Mathlib.Nat.{eq-or-lt_of_le, le_trans, le_of_eq}
use native.Mathlib.Omega.{arith}
use mathlib.Core.Path.{◌≡◌, refl, ap, sym, subst, ◌∙◌}
use mathlib.Core.Bool.{Bool, true, false, ◌&&◌, ◌||◌}
use mathlib.Core.Logic.{◌⊎◌, inl, inr}
use mathlib.Core.List.{List, [], ◌∷◌}
use lib.ListN.{take}
use lib.Dec.{eqb, leb, ltb}
use borrow.Author.Tests.{eqb-true, eq-eqb, leb-true, le-leb, ltb-true, ltb-false, lt-ltb, le-ltb}
use Rattle.std.proofs.lemmas.Bool.{and_parts, both_ways, false≢true}
use Rattle.runs.specs.Sums.{sum, one}
use Rattle.runs.specs.model.Cache.{is_in, without, content_at, present, used_since}
use Rattle.runs.proofs.SumLaws.{sum-le, sum-has, sum-swap, sum_ones, count-once}
use Rattle.std.proofs.lemmas.Grind.{common_steps}

-- what a use of block b makes of the ages of the blocks: b is the youngest, and what was younger than b is one older. A block is in the set while its
-- age is below W
abbrev touch : ℕ → (ℕ → ℕ) → ℕ → ℕ
touch b age x = elim (eqb x b) [ true ↦ 0 | false ↦ elim (ltb (age x) (age b)) [ true ↦ suc (age x) | false ↦ age x ] ]

-- the age of block x before tick t
unfoldable pub age_in : ℕ → (ℕ → Bool) → (ℕ → ℕ) → ℕ → ℕ → ℕ
age_in W on block zero x = W
age_in W on block (suc t) x = elim (on t) [ true ↦ touch (block t) (age_in W on block t) x | false ↦ age_in W on block t x ]

-- ---- one use

abbrev older : ℕ → ℕ → ℕ
older a u = elim (ltb a u) [ true ↦ suc a | false ↦ a ]

touch-self : (b : ℕ) (age : ℕ → ℕ) (x : ℕ) → eqb x b ≡ true → touch b age x ≡ 0
touch-self b age x e = ap (λ (q : Bool). elim q [ true ↦ 0 | false ↦ elim (ltb (age x) (age b)) [ true ↦ suc (age x) | false ↦ age x ] ]) e

touch-other : (b : ℕ) (age : ℕ → ℕ) (x : ℕ) → eqb x b ≡ false → touch b age x ≡ older (age x) (age b)
touch-other b age x e = ap (λ (q : Bool). elim q [ true ↦ 0 | false ↦ elim (ltb (age x) (age b)) [ true ↦ suc (age x) | false ↦ age x ] ]) e

older-least : (a u : ℕ) → a ≤ older a u
older-least a u = grind (arith, common_steps)

-- blocks that are in the set have different ages
abbrev Distinct : ℕ → (ℕ → ℕ) → Type 0
Distinct W age = (x y : ℕ) → eqb x y ≡ false → age x ≡ age y → age x < W → ⊥

touch-distinct : (W u : ℕ) (age : ℕ → ℕ) → Distinct W age → Distinct W (touch u age)
touch-distinct W u age old x y d = grind (arith, common_steps)

-- ---- the ages, over time

module _ (W : ℕ) (on : ℕ → Bool) (block : ℕ → ℕ) where
  abbrev age : ℕ → ℕ → ℕ
  age t x = age_in W on block t x

  age-off : (t x : ℕ) → on t ≡ false → age (suc t) x ≡ age t x
  unfolding age_in
  age-off t x e = ap (λ (q : Bool). elim q [ true ↦ touch (block t) (age t) x | false ↦ age t x ]) e

  age-on : (t x : ℕ) → on t ≡ true → age (suc t) x ≡ touch (block t) (age t) x
  unfolding age_in
  age-on t x e = ap (λ (q : Bool). elim q [ true ↦ touch (block t) (age t) x | false ↦ age t x ]) e

  pub age-distinct : (t : ℕ) → Distinct W (age t)
  unfolding age_in
  age-distinct zero = λ x y d e l. omega arith
  age-distinct (suc t) = go (on t) refl (age-distinct t)
    where
      go : (b : Bool) → on t ≡ b → Distinct W (age t) → Distinct W (λ x. elim b [ true ↦ touch (block t) (age t) x | false ↦ age t x ])
      go true e old = touch-distinct W (block t) (age t) old
      go false e old = old

  -- a block that is in the set was used, and not again since
  abbrev pub Last : ℕ → ℕ → Type 0
  Last t x = (p : ℕ) × (p < t) × (on p ≡ true) × (eqb x (block p) ≡ true) × ((v : ℕ) → p < v → v < t → on v ≡ true → eqb x (block v) ≡ false)

  pub last-use : (t x : ℕ) → age t x < W → Last t x
  unfolding age_in
  last-use zero x l = absurd (omega arith)
  last-use (suc t) x l = go (on t) (eqb x (block t)) refl refl (last-use t x)
    where
      longer : Last t x → (on t ≡ true → eqb x (block t) ≡ false) → Last (suc t) x
      longer w q = grind (arith, common_steps)

      go : (b d : Bool) → on t ≡ b → eqb x (block t) ≡ d → (age t x < W → Last t x) → Last (suc t) x
      go b d e f rest = grind (arith, common_steps)

  -- a block that is not used since T
  pub not-since : (T t x : ℕ) → ((v : ℕ) → T ≤ v → v < t → on v ≡ true → eqb x (block v) ≡ false) → used_since on block T t x ≡ false
  unfolding used_since
  not-since T zero x p = refl
  not-since T (suc t) x p = go (leb T t) (on t) refl refl (not-since T t x (λ v a b. p v a (omega arith)))
    where
      go : (b d : Bool) → leb T t ≡ b → on t ≡ d → used_since on block T t x ≡ false → ((b && d && eqb x (block t)) || used_since on block T t x) ≡ false
      go true true e f rest = let g = p t (leb-true T t e) (omega arith) f in rw g rest
      go true false e f rest = rest
      go false d e f rest = rest

  -- a block that is not used grows no younger
  grow : (t x : ℕ) → (on t ≡ true → eqb x (block t) ≡ false) → age t x ≤ age (suc t) x
  grow t x d = go (on t) refl
    where
      go : (b : Bool) → on t ≡ b → age t x ≤ age (suc t) x
      go false e = omega (arith, age-off t x e)
      go true e = omega (arith, age-on t x e, touch-other (block t) (age t) x (d e), older-least (age t x) (age t (block t)))

  grows : (T s x : ℕ) → ((v : ℕ) → T ≤ v → v < T + s → on v ≡ true → eqb x (block v) ≡ false) → age T x ≤ age (T + s) x
  grows T zero x p = let e : T + 0 ≡ T = omega arith in rw e (omega arith)
  grows T (suc s) x p =
      let e : T + suc s ≡ suc (T + s) = omega arith in
      rw e (omega (arith, grows T s x (λ v a b. p v a (omega arith)), grow (T + s) x (p (T + s) (omega arith) (omega arith))))

  -- what is used since T
  since-has : (T t x v : ℕ) → T ≤ v → v < t → on v ≡ true → eqb x (block v) ≡ true → used_since on block T t x ≡ true
  unfolding used_since
  since-has T zero x v a b e f = absurd (omega arith)
  since-has T (suc t) x v a b e f = go (eq-or-lt_of_le (omega arith)) (since-has T t x v a)
    where
      here : (a b c d : Bool) → a ≡ true → b ≡ true → c ≡ true → ((a && b && c) || d) ≡ true
      here a b c d p q r = rw (p, q, r) refl

      late : (a d : Bool) → d ≡ true → (a || d) ≡ true
      late true d p = refl
      late false d p = p

      go : (v ≡ t) ⊎ (v < t) → (v < t → on v ≡ true → eqb x (block v) ≡ true → used_since on block T t x ≡ true)
          → ((leb T t && on t && eqb x (block t)) || used_since on block T t x) ≡ true
      go (inl q) rest =
          here (leb T t) (on t) (eqb x (block t)) _ (le-leb T t (omega arith)) (sym (ap on q) ∙ e) (sym (ap (λ (y : ℕ). eqb x (block y)) q) ∙ f)
      go (inr q) rest = late (leb T t && on t && eqb x (block t)) (used_since on block T t x) (rest q e f)

  -- A SET HAS W WAYS: of the blocks that are in it at T, at most W are found the first time since
  abbrev First : ℕ → ℕ → Type 0
  First T s = (T ≤ s) × (on s ≡ true) × (age s (block s) < W) × (used_since on block T s (block s) ≡ false)

  first-age : (T s : ℕ) → First T s → age T (block s) < W
  first-age T s (a, b, c, d) =
      let e : T + (s - T) ≡ s = omega arith in
      let g = grows T (s - T) (block s) (λ v p q. un v p (omega arith) (eqb (block s) (block v)) refl) in
      let h = subst (λ (y : ℕ). age T (block s) ≤ age y (block s)) e g in omega arith
    where
      un : (v : ℕ) → T ≤ v → v < s → (b : Bool) → eqb (block s) (block v) ≡ b → on v ≡ true → eqb (block s) (block v) ≡ false
      un v p q true f o = absurd (both_ways (used_since on block T s (block s)) d (since-has T s (block s) v p q o f))
      un v p q false f o = f

  first-apart : (T s t : ℕ) → s < t → First T s → First T t → age T (block s) ≡ age T (block t) → ⊥
  first-apart T s t l f g e = go (eqb (block s) (block t)) refl
    where
      go : (b : Bool) → eqb (block s) (block t) ≡ b → ⊥
      go true q =
          both_ways (used_since on block T t (block t)) g.3 (since-has T t (block t) s f.0 l f.1 (eq-eqb (block t) (block s) (sym (eqb-true (block s) (block t) q))))
      go false q = age-distinct T (block s) (block t) q e (first-age T s f)

  pub first-most : (T : ℕ) (ch : ℕ → Bool) (t : ℕ) → ((s : ℕ) → s < t → ch s ≡ true → First T s) → sum (λ s. one (ch s)) t ≤ W
  first-most T ch t facts =
      le_trans (sum-le _ (λ s. sum (λ q. one (ch s && eqb (age T (block s)) q)) W) t (λ s l. one_of s l (ch s) refl))
      (le_trans (le_of_eq (sum-swap (λ q s. one (ch s && eqb (age T (block s)) q)) t W))
      (le_trans (sum-le _ (λ q. 1) W (λ q l. count-once (λ s. ch s && eqb (age T (block s)) q) true t
      (λ a b d h e f.
      let p = and_parts (ch a) (eqb (age T (block a)) q) e in
      let r = and_parts (ch b) (eqb (age T (block b)) q) f in
      first-apart T a b d (facts a (omega arith) p.0) (facts b h r.0) (eqb-true _ q p.1 ∙ sym (eqb-true _ q r.1)))
      (λ k h e. refl))) (le_of_eq (sum_ones W))))
    where
      one_of : (s : ℕ) → s < t → (b : Bool) → ch s ≡ b → one (ch s) ≤ sum (λ q. one (ch s && eqb (age T (block s)) q)) W
      one_of s l false e = rw e (omega arith)
      one_of s l true e =
          let w : one (ch s && eqb (age T (block s)) (age T (block s))) ≡ 1 = rw (e, eq-eqb (age T (block s)) (age T (block s)) refl) refl in
          let v : one (ch s) ≡ 1 = ap one e in
          omega (arith, sum-has (λ q. one (ch s && eqb (age T (block s)) q)) W (age T (block s)) (first-age T s (facts s l e)))

-- ---- two sets that are used in the same way since block x was used

module _ (W : ℕ) (on₁ on₂ : ℕ → Bool) (block : ℕ → ℕ) (from x : ℕ) (there₁ : on₁ from ≡ true) (there₂ : on₂ from ≡ true)
    (used : eqb x (block from) ≡ true) where
  abbrev A : ℕ → ℕ → ℕ
  A t y = age_in W on₁ block t y

  abbrev B : ℕ → ℕ → ℕ
  B t y = age_in W on₂ block t y

  -- it has the same age in both, and the same blocks are younger
  abbrev Same : ℕ → Type 0
  Same t = (A t x ≡ B t x) × ((y : ℕ) → (A t y < A t x → B t y < B t x) × (B t y < B t x → A t y < A t x))

  at_once : Same (suc from)
  at_once =
      let p = age-on W on₁ block from x there₁ ∙ touch-self (block from) (A from) x used in
      let q = age-on W on₂ block from x there₂ ∙ touch-self (block from) (B from) x used in
      (p ∙ sym q, (λ y. ((λ l. absurd (omega arith)), (λ l. absurd (omega arith)))))

  -- a use of another block, of age u₁ here and u₂ there
  sides : (α₁ α₂ u₁ u₂ : ℕ) → α₁ ≡ α₂ → (u₁ < α₁ → u₂ < α₂) → (u₂ < α₂ → u₁ < α₁) → (α₁ ≡ u₁ → ⊥) → (α₂ ≡ u₂ → ⊥)
      → ((u₁ < α₁) × (u₂ < α₂)) ⊎ ((α₁ < u₁) × (α₂ < u₂))
  sides α₁ α₂ u₁ u₂ e f g d₁ d₂ = grind (arith, common_steps)

  same-age : (α₁ α₂ u₁ u₂ : ℕ) → α₁ ≡ α₂ → ((u₁ < α₁) × (u₂ < α₂)) ⊎ ((α₁ < u₁) × (α₂ < u₂))
      → (older α₁ u₁ ≡ older α₂ u₂) × (0 < older α₁ u₁)
  same-age α₁ α₂ u₁ u₂ e p = grind (arith, common_steps)

  same-younger : (α₁ α₂ u₁ u₂ y₁ y₂ : ℕ) → ((u₁ < α₁) × (u₂ < α₂)) ⊎ ((α₁ < u₁) × (α₂ < u₂)) → (y₁ < α₁ → y₂ < α₂)
      → older y₁ u₁ < older α₁ u₁ → older y₂ u₂ < older α₂ u₂
  same-younger α₁ α₂ u₁ u₂ y₁ y₂ p h l = grind (arith, common_steps)

  step : (t : ℕ) → Same t → (b : Bool) → on₁ t ≡ b → on₂ t ≡ b → (b ≡ true → eqb x (block t) ≡ false) → B t x < W → Same (suc t)
  step t (e, s) false f g d l = (
    age-off W on₁ block t x f ∙ e ∙ sym (age-off W on₂ block t x g),
    (λ y. (
      (λ m. omega (arith, age-off W on₂ block t x g, age-off W on₂ block t y g, (s y).0 (omega (arith, m, age-off W on₁ block t x f, age-off W on₁ block t y f)))),
      (λ m. omega (arith, age-off W on₁ block t x f, age-off W on₁ block t y f, (s y).1 (omega (arith, m, age-off W on₂ block t x g, age-off W on₂ block t y g)))),
    )),
  )
  step t (e, s) true f g d l = (x₁ ∙ ages.0 ∙ sym x₂, (λ y. younger y (eqb y (block t)) refl))
    where
      x₁ : A (suc t) x ≡ older (A t x) (A t (block t))
      x₁ = age-on W on₁ block t x f ∙ touch-other (block t) (A t) x (d refl)

      x₂ : B (suc t) x ≡ older (B t x) (B t (block t))
      x₂ = age-on W on₂ block t x g ∙ touch-other (block t) (B t) x (d refl)

      side : ((A t (block t) < A t x) × (B t (block t) < B t x)) ⊎ ((A t x < A t (block t)) × (B t x < B t (block t)))
      side =
          sides (A t x) (B t x) (A t (block t)) (B t (block t)) e (s (block t)).0 (s (block t)).1
          (λ q. age-distinct W on₁ block t x (block t) (d refl) q (omega arith)) (λ q. age-distinct W on₂ block t x (block t) (d refl) q l)

      back : ((A t (block t) < A t x) × (B t (block t) < B t x)) ⊎ ((A t x < A t (block t)) × (B t x < B t (block t)))
          → ((B t (block t) < B t x) × (A t (block t) < A t x)) ⊎ ((B t x < B t (block t)) × (A t x < A t (block t)))
      back (inl p) = inl (p.1, p.0)
      back (inr p) = inr (p.1, p.0)

      ages : (older (A t x) (A t (block t)) ≡ older (B t x) (B t (block t))) × (0 < older (A t x) (A t (block t)))
      ages = same-age (A t x) (B t x) (A t (block t)) (B t (block t)) e side

      younger : (y : ℕ) (b : Bool) → eqb y (block t) ≡ b → (A (suc t) y < A (suc t) x → B (suc t) y < B (suc t) x) × (B (suc t) y < B (suc t) x → A (suc t) y < A (suc t) x)
      younger y true q =
          let p₁ = age-on W on₁ block t y f ∙ touch-self (block t) (A t) y q in
          let p₂ = age-on W on₂ block t y g ∙ touch-self (block t) (B t) y q in
          ((λ m. omega (arith, ages.0, ages.1, p₂, x₂)), (λ m. omega (arith, ages.0, ages.1, p₁, x₁)))
      younger y false q =
          let p₁ = age-on W on₁ block t y f ∙ touch-other (block t) (A t) y q in
          let p₂ = age-on W on₂ block t y g ∙ touch-other (block t) (B t) y q in (
            (λ m. let r = same-younger (A t x) (B t x) (A t (block t)) (B t (block t)) (A t y) (B t y) side (s y).0 (omega (arith, m, p₁, x₁)) in omega (arith, r, p₂, x₂)),
            (λ m. let r = same-younger (B t x) (A t x) (B t (block t)) (A t (block t)) (B t y) (A t y) (back side) (s y).1 (omega (arith, m, p₂, x₂)) in omega (arith, r, p₁, x₁)),
          )

  -- it is in the one as long as it is in the other
  pub same-since : (s : ℕ) → ((v : ℕ) → from < v → v < suc from + s → on₁ v ≡ on₂ v)
      → ((v : ℕ) → from < v → v < suc from + s → on₂ v ≡ true → eqb x (block v) ≡ false)
      → B (suc from + s) x < W → Same (suc from + s)
  same-since zero p q l = let e : suc from + 0 ≡ suc from = omega arith in rw e at_once
  same-since (suc s) p q l =
      let e : suc from + suc s ≡ suc (suc from + s) = omega arith in
      let m : B (suc (suc from + s)) x < W = subst (λ (t : ℕ). B t x < W) e l in
      let d = grow W on₂ block (suc from + s) x (q (suc from + s) (omega arith) (omega arith)) in
      subst Same (sym e) (step (suc from + s)
      (same-since s (λ v a b. p v a (omega arith)) (λ v a b. q v a (omega arith)) (omega arith))
      (on₂ (suc from + s)) (p (suc from + s) (omega arith) (omega arith)) refl (q (suc from + s) (omega arith) (omega arith)) (omega arith))

-- ---- lists

-- the first r of a list without b
without-first : (x b : ℕ) → eqb x b ≡ false → (r : ℕ) (l : List ℕ)
    → is_in x (take r (without b l)) ≡ elim (is_in b (take r l)) [ true ↦ is_in x (take (suc r) l) | false ↦ is_in x (take r l) ]
unfolding is_in without
without-first x b d zero l = refl
without-first x b d (suc r) [] = refl
without-first x b d (suc r) (y ∷ l) = go (eqb b y) refl (without-first x b d r l)
  where
    other : eqb b y ≡ true → eqb x y ≡ false
    other e = subst (λ (v : ℕ). eqb x v ≡ false) (eqb-true b y e) d

    inner : (c d : Bool) (p q : Bool) → (c || elim d [ true ↦ p | false ↦ q ]) ≡ elim d [ true ↦ c || p | false ↦ c || q ]
    inner c true p q = refl
    inner c false p q = refl

    go : (e : Bool) → eqb b y ≡ e → is_in x (take r (without b l)) ≡ elim (is_in b (take r l)) [ true ↦ is_in x (take (suc r) l) | false ↦ is_in x (take r l) ]
        → is_in x (take (suc r) (elim e [ true ↦ l | false ↦ y ∷ without b l ]))
        ≡ elim (e || is_in b (take r l)) [ true ↦ eqb x y || is_in x (take (suc r) l) | false ↦ eqb x y || is_in x (take r l) ]
    go true e rest = ap (λ (v : Bool). v || is_in x (take (suc r) l)) (sym (other e))
    go false e rest = ap (λ (v : Bool). eqb x y || v) rest ∙ inner (eqb x y) (is_in b (take r l)) (is_in x (take (suc r) l)) (is_in x (take r l))

take-take : (x q r : ℕ) (l : List ℕ) → q ≤ r → is_in x (take q (take r l)) ≡ is_in x (take q l)
unfolding is_in
take-take x zero r l d = refl
take-take x (suc q) zero l d = absurd (omega arith)
take-take x (suc q) (suc r) [] d = refl
take-take x (suc q) (suc r) (y ∷ l) d = ap (λ (v : Bool). eqb x y || v) (take-take x q r l (omega arith))

none_in : (x : ℕ) → is_in x [] ≡ false
unfolding is_in
none_in x = refl

empty : (x q : ℕ) → is_in x (take q []) ≡ false
empty x zero = none_in x
empty x (suc q) = none_in x

-- two tests that say the same
alike : (a b : Bool) → (a ≡ true → b ≡ true) → (b ≡ true → a ≡ true) → a ≡ b
alike true b f g = sym (f refl)
alike false true f g = absurd (false≢true (g refl))
alike false false f g = refl

-- the first r of a list that are in it, after a use
aged : (W r ax ab : ℕ) → r < W → (ax ≡ ab → ax < W → ⊥) → elim (ltb ab r) [ true ↦ ltb ax (suc r) | false ↦ ltb ax r ] ≡ ltb (older ax ab) (suc r)
aged W r ax ab l d = grind (arith, common_steps)

module _ (W : ℕ) (on : ℕ → Bool) (block : ℕ → ℕ) where
  -- the first q blocks of the list are those of an age below q
  after-use : (t x b : ℕ) → ((q x : ℕ) → q ≤ W → is_in x (take q (content_at W on block t)) ≡ ltb (age_in W on block t x) q)
      → (q : ℕ) → q ≤ W → is_in x (take q (b ∷ without b (content_at W on block t))) ≡ ltb (touch b (age_in W on block t) x) q
  unfolding is_in
  after-use t x b old zero d = sym (le-ltb (touch b (age_in W on block t) x) 0 (omega arith))
  after-use t x b old (suc r) d = go (eqb x b) refl
    where
      go : (e : Bool) → eqb x b ≡ e → (eqb x b || is_in x (take r (without b (content_at W on block t)))) ≡ ltb (touch b (age_in W on block t) x) (suc r)
      go true e =
          ap (λ (v : Bool). v || is_in x (take r (without b (content_at W on block t)))) e
          ∙ sym (lt-ltb (touch b (age_in W on block t) x) (suc r) (omega (arith, touch-self b (age_in W on block t) x e)))
      go false e =
          ap (λ (v : Bool). v || is_in x (take r (without b (content_at W on block t)))) e
          ∙ without-first x b e r (content_at W on block t)
          ∙ three (is_in b (take r (content_at W on block t))) (ltb (age_in W on block t b) r) (old r b (omega arith)) _ _ (old (suc r) x d) _ _ (old r x (omega arith))
          ∙ aged W r (age_in W on block t x) (age_in W on block t b) (omega arith) (age-distinct W on block t x b e)
          ∙ sym (ap (λ (v : ℕ). ltb v (suc r)) (touch-other b (age_in W on block t) x e))
        where
          three : (a b : Bool) → a ≡ b → (c d : Bool) → c ≡ d → (e f : Bool) → e ≡ f → ◌≡◌ {A = Bool} (elim a [ true ↦ c | false ↦ e ]) (elim b [ true ↦ d | false ↦ f ])
          three a b p c d q e f r = grind (arith, common_steps)

  first-held : (t q x : ℕ) → q ≤ W → is_in x (take q (content_at W on block t)) ≡ ltb (age_in W on block t x) q
  unfolding content_at age_in
  first-held zero q x d = empty x q ∙ sym (le-ltb W q d)
  first-held (suc t) q x d = go (on t) refl (first-held t)
    where
      go : (e : Bool) → on t ≡ e → ((q x : ℕ) → q ≤ W → is_in x (take q (content_at W on block t)) ≡ ltb (age_in W on block t x) q)
          → is_in x (take q (elim e [ true ↦ take W (block t ∷ without (block t) (content_at W on block t)) | false ↦ content_at W on block t ]))
          ≡ ltb (elim e [ true ↦ touch (block t) (age_in W on block t) x | false ↦ age_in W on block t x ]) q
      go true e old = take-take x q W (block t ∷ without (block t) (content_at W on block t)) d ∙ after-use t x (block t) old q d
      go false e old = old q x d

  -- THE LIST AND THE AGES AGREE
  pub present-is : (t x : ℕ) → present W on block t x ≡ ltb (age_in W on block t x) W
  unfolding content_at age_in
  present-is zero x = none_in x ∙ sym (le-ltb W W (omega arith))
  present-is (suc t) x = go (on t) refl (present-is t x)
    where
      go : (e : Bool) → on t ≡ e → present W on block t x ≡ ltb (age_in W on block t x) W
          → is_in x (elim e [ true ↦ take W (block t ∷ without (block t) (content_at W on block t)) | false ↦ content_at W on block t ])
          ≡ ltb (elim e [ true ↦ touch (block t) (age_in W on block t) x | false ↦ age_in W on block t x ]) W
      go true e old = after-use t x (block t) (first-held t) W (omega arith)
      go false e old = old

  pub is-young : (t x : ℕ) → present W on block t x ≡ true → age_in W on block t x < W
  is-young t x e = ltb-true (age_in W on block t x) W (sym (present-is t x) ∙ e)

  pub not-young : (t x : ℕ) → present W on block t x ≡ false → W ≤ age_in W on block t x
  not-young t x e = ltb-false (age_in W on block t x) W (sym (present-is t x) ∙ e)
