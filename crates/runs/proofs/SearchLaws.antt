-- Searches, and the largest of some.
use Prim.Native.Nat.{ℕ, zero, suc, max, ◌≤◌, ◌<◌}
use native.Mathlib.Nat.{eq-or-lt_of_le, lt_of_not-le}
use native.Mathlib.Decide.{dec_le}
use native.Mathlib.Omega.{arith}
use mathlib.Core.Path.{◌≡◌, refl, ap, sym, ◌∙◌}
use mathlib.Core.Bool.{Bool, true, false, ◌||◌}
use mathlib.Core.Logic.{◌⊎◌, inl, inr}
use Rattle.std.proofs.lemmas.Bool.{both_ways, false≢true, or_right}
use Rattle.runs.specs.Sums.{one}
use Rattle.runs.specs.Equation.{any, largest}

-- ---- searches

-- the last before `end` that has q
pub last-before : (q : ℕ → Bool) (from end : ℕ) → from < end → q from ≡ true
    → (l : ℕ) × (from ≤ l) × (l < end) × (q l ≡ true) × ((w : ℕ) → l < w → w < end → q w ≡ false)
last-before q from zero d e = absurd (omega arith)
last-before q from (suc r) d e = go (q r) refl (eq-or-lt_of_le (omega arith)) (last-before q from r)
  where
    more : (l : ℕ) → q r ≡ false → ((w : ℕ) → l < w → w < r → q w ≡ false) → (w : ℕ) → l < w → (w ≡ r) ⊎ (w < r) → q w ≡ false
    more l f p w b (inl g) = rw g f
    more l f p w b (inr g) = p w b g

    go : (b : Bool) → q r ≡ b → (from ≡ r) ⊎ (from < r)
        → (from < r → q from ≡ true → (l : ℕ) × (from ≤ l) × (l < r) × (q l ≡ true) × ((w : ℕ) → l < w → w < r → q w ≡ false))
        → (l : ℕ) × (from ≤ l) × (l < suc r) × (q l ≡ true) × ((w : ℕ) → l < w → w < suc r → q w ≡ false)
    go true f c rest = (r, omega arith, omega arith, f, (λ w a b. absurd (omega arith)))
    go false f (inl c) rest = absurd (both_ways (q from) (ap q c ∙ f) e)
    go false f (inr c) rest =
        let w = rest c e in
        (w.0, w.1, omega (arith, w.2), w.3, (λ v a b. more w.0 f w.4 v a (eq-or-lt_of_le (omega arith))))

-- where f is largest, behind `left` and up to `end`
pub largest-at : (f : ℕ → ℕ) (left end : ℕ) → left < end → (v : ℕ) × (left < v) × (v ≤ end) × ((w : ℕ) → left < w → w ≤ end → f w ≤ f v)
largest-at f left zero d = absurd (omega arith)
largest-at f left (suc r) d = go (eq-or-lt_of_le (omega arith)) (largest-at f left r)
  where
    only : left ≡ r → (w : ℕ) → left < w → w ≤ suc r → f w ≤ f (suc r)
    only e w a b = let g : w ≡ suc r = omega arith in rw g (omega arith)

    end-most : (v : ℕ) → ((w : ℕ) → left < w → w ≤ r → f w ≤ f v) → (y : ℕ) → f v ≤ f y → f (suc r) ≤ f y
        → (w : ℕ) → left < w → (w ≡ suc r) ⊎ (w < suc r) → f w ≤ f y
    end-most v p y a b w c (inl e) = rw e b
    end-most v p y a b w c (inr e) = omega (arith, p w c (omega arith))

    go : (left ≡ r) ⊎ (left < r) → (left < r → (v : ℕ) × (left < v) × (v ≤ r) × ((w : ℕ) → left < w → w ≤ r → f w ≤ f v))
        → (v : ℕ) × (left < v) × (v ≤ suc r) × ((w : ℕ) → left < w → w ≤ suc r → f w ≤ f v)
    go (inl e) rest = (suc r, omega arith, omega arith, only e)
    go (inr l) rest = at (rest l)
      where
        at : (v : ℕ) × (left < v) × (v ≤ r) × ((w : ℕ) → left < w → w ≤ r → f w ≤ f v)
            → (v : ℕ) × (left < v) × (v ≤ suc r) × ((w : ℕ) → left < w → w ≤ suc r → f w ≤ f v)
        at (v, a, b, p) = pick (dec_le (f (suc r)) (f v))
          where
            pick : Dec (f (suc r) ≤ f v) → (v : ℕ) × (left < v) × (v ≤ suc r) × ((w : ℕ) → left < w → w ≤ suc r → f w ≤ f v)
            pick (yes y) = (v, a, omega arith, (λ w c d. end-most v p v (omega arith) y w c (eq-or-lt_of_le d)))
            pick (no y) = (
              suc r,
              omega arith,
              omega arith,
              (λ w c d. end-most v p (suc r) (omega (arith, lt_of_not-le y)) (omega arith) w c (eq-or-lt_of_le d)),
            )

-- ---- sets

pub any-has : (q : ℕ → Bool) (n k : ℕ) → k < n → q k ≡ true → any q n ≡ true
unfolding any
any-has q zero k l e = absurd (omega arith)
any-has q (suc n) k l e = go (eq-or-lt_of_le (omega arith)) (any-has q n k)
  where
    go : (k ≡ n) ⊎ (k < n) → (k < n → q k ≡ true → any q n ≡ true) → (q n || any q n) ≡ true
    go (inl f) rest = let g : q n ≡ true = sym (ap q f) ∙ e in rw g refl
    go (inr d) rest = or_right (q n) (any q n) (rest d e)

pub any-is : (q : ℕ → Bool) (n : ℕ) → any q n ≡ true → (k : ℕ) × (k < n) × (q k ≡ true)
unfolding any
any-is q zero e = absurd (false≢true e)
any-is q (suc n) e = go (q n) refl e (any-is q n)
  where
    go : (b : Bool) → q n ≡ b → (b || any q n) ≡ true → (any q n ≡ true → (k : ℕ) × (k < n) × (q k ≡ true)) → (k : ℕ) × (k < suc n) × (q k ≡ true)
    go true f g rest = (n, omega arith, f)
    go false f g rest = let w = rest g in (w.0, omega (arith, w.1), w.2)

pub largest-has : (f : ℕ → ℕ) (n k : ℕ) → k < n → f k ≤ largest f n
unfolding largest
largest-has f zero k l = absurd (omega arith)
largest-has f (suc n) k l = go (eq-or-lt_of_le (omega arith)) (largest-has f n k)
  where
    go : (k ≡ n) ⊎ (k < n) → (k < n → f k ≤ largest f n) → f k ≤ max (f n) (largest f n)
    go (inl e) rest = rw e (omega arith)
    go (inr d) rest = omega (arith, rest d)

-- where p has q, as a count
pub one-le : (p q : Bool) → (p ≡ true → q ≡ true) → one p ≤ one q
one-le true q f = let e = f refl in rw e (omega arith)
one-le false q f = omega arith
