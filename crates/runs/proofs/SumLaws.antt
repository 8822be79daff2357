-- Facts about sums, counts and searches.
use Prim.Native.Nat.{ℕ, zero, suc, ◌+◌, ◌-◌, ◌*◌, ◌≤◌, ◌<◌}
use native.Mathlib.Nat.{add-mul, eq-or-lt_of_le, le_of_eq}
use native.Mathlib.Omega.{arith}
use mathlib.Core.Path.{◌≡◌, refl, ap, ◌∙◌}
use mathlib.Core.Bool.{Bool, true, false}
use mathlib.Core.Logic.{◌⊎◌, inl, inr}
use Rattle.std.proofs.lemmas.Bool.{both_ways, false≢true}
use Rattle.runs.specs.Sums.{sum, one}

pub sum-le : (f g : ℕ → ℕ) (n : ℕ) → ((k : ℕ) → k < n → f k ≤ g k) → sum f n ≤ sum g n
unfolding sum
sum-le f g zero p = omega arith
sum-le f g (suc n) p = omega (arith, sum-le f g n (λ k h. p k (omega arith)), p n (omega arith))

pub sum-add : (f g : ℕ → ℕ) (n : ℕ) → sum (λ k. f k + g k) n ≡ sum f n + sum g n
unfolding sum
sum-add f g zero = refl
sum-add f g (suc n) = omega (arith, sum-add f g n)

pub sum-none : (n : ℕ) → sum (λ k. 0) n ≡ 0
unfolding sum
sum-none zero = refl
sum-none (suc n) = omega (arith, sum-none n)

pub sum_ones : (n : ℕ) → sum (λ k. 1) n ≡ n
unfolding sum
sum_ones zero = refl
sum_ones (suc n) = omega (arith, sum_ones n)

pub sum-scale : (f : ℕ → ℕ) (c n : ℕ) → sum (λ k. f k * c) n ≡ sum f n * c
unfolding sum
sum-scale f c zero = omega arith
sum-scale f c (suc n) = omega (arith, sum-scale f c n, add-mul (sum f n) (f n) c)

pub sum_same : (f g : ℕ → ℕ) (n : ℕ) → ((k : ℕ) → k < n → f k ≡ g k) → sum f n ≡ sum g n
unfolding sum
sum_same f g zero p = refl
sum_same f g (suc n) p = omega (arith, sum_same f g n (λ k h. p k (omega arith)), p n (omega arith))

pub sum-empty : (f : ℕ → ℕ) (n : ℕ) → ((k : ℕ) → k < n → f k ≡ 0) → sum f n ≡ 0
sum-empty f n p = sum_same f (λ k. 0) n p ∙ sum-none n

-- a part is no more than the whole
pub sum-has : (f : ℕ → ℕ) (n k : ℕ) → k < n → f k ≤ sum f n
unfolding sum
sum-has f zero k h = absurd (omega arith)
sum-has f (suc n) k h = go (eq-or-lt_of_le (omega arith)) (sum-has f n k)
  where
    go : (k ≡ n) ⊎ (k < n) → (k < n → f k ≤ sum f n) → f k ≤ sum f n + f n
    go (inl e) rest = rw e (omega arith)
    go (inr l) rest = omega (arith, rest l)

-- by rows or by columns
pub sum-swap : (f : ℕ → ℕ → ℕ) (m n : ℕ) → sum (λ s. sum (λ k. f k s) n) m ≡ sum (λ k. sum (λ s. f k s) m) n
unfolding sum
sum-swap f m zero = sum-none m
sum-swap f m (suc n) = omega (arith, sum-add (λ s. sum (λ k. f k s) n) (λ s. f n s) m, sum-swap f m n)

-- one sum over two others
pub sum-under : (f : ℕ → ℕ → ℕ → ℕ) (x m n : ℕ)
    → sum (λ s. sum (λ j. sum (λ l. f j l s) n) m) x ≡ sum (λ j. sum (λ l. sum (λ s. f j l s) x) n) m
sum-under f x m n =
    sum-swap (λ j s. sum (λ l. f j l s) n) x m
    ∙ sum_same _ _ m (λ j h. sum-swap (λ l s. f j l s) x n)

-- the first a, and the next x
pub sum-split : (f : ℕ → ℕ) (a x : ℕ) → sum f (a + x) ≡ sum f a + sum (λ s. f (a + s)) x
unfolding sum
sum-split f a zero = let e : a + 0 ≡ a = omega arith in rw e (omega arith)
sum-split f a (suc x) = let e : a + suc x ≡ suc (a + x) = omega arith in rw e (omega (arith, sum-split f a x))

-- none of the first l has p, so at most the others have
count-late : (p : ℕ → Bool) (l : ℕ) → ((k : ℕ) → k < l → p k ≡ false) → (n : ℕ) → sum (λ k. one (p k)) n ≤ n - l
unfolding sum
count-late p l none zero = omega arith
count-late p l none (suc n) = go (p n) refl (eq-or-lt_of_le (omega arith)) (count-late p l none n)
  where
    go : (b : Bool) → p n ≡ b → (0 ≡ suc n - l) ⊎ (0 < suc n - l) → sum (λ k. one (p k)) n ≤ n - l
        → sum (λ k. one (p k)) n + one (p n) ≤ suc n - l
    go true e (inl z) rest = absurd (both_ways (p n) (none n (omega arith)) e)
    go true e (inr l) rest = rw e (omega arith)
    go false e c rest = rw e (omega arith)

-- those that have p lie close together, so there are few of them
pub count-close : (p : ℕ → Bool) (q n : ℕ) → ((a b : ℕ) → a ≤ b → b < n → p a ≡ true → p b ≡ true → b < a + q) → sum (λ k. one (p k)) n ≤ q
unfolding sum
count-close p q zero close = omega arith
count-close p q (suc n) close = go (p n) refl (count-close p q n (λ a b l d. close a b l (omega arith)))
  where
    early : p n ≡ true → (k : ℕ) → k < suc n - q → (b : Bool) → p k ≡ b → p k ≡ false
    early e k h true w = absurd (let z = close k n (omega arith) (omega arith) w e in omega arith)
    early e k h false w = w

    go : (b : Bool) → p n ≡ b → sum (λ k. one (p k)) n ≤ q → sum (λ k. one (p k)) n + one (p n) ≤ q
    go true e rest = let c = count-late p (suc n - q) (λ k h. early e k h (p k) refl) (suc n) in omega arith
    go false e rest = rw e (omega arith)

-- at most one has p, and only where b holds
pub count-once : (p : ℕ → Bool) (b : Bool) (n : ℕ) → ((k l : ℕ) → k < l → l < n → p k ≡ true → p l ≡ true → ⊥)
    → ((k : ℕ) → k < n → p k ≡ true → b ≡ true) → sum (λ k. one (p k)) n ≤ one b
count-once p true n apart only = count-close p 1 n (λ k l d h e f. at k l d h e f (eq-or-lt_of_le d))
  where
    at : (k l : ℕ) → k ≤ l → l < n → p k ≡ true → p l ≡ true → (k ≡ l) ⊎ (k < l) → l < k + 1
    at k l d h e f (inl q) = omega arith
    at k l d h e f (inr q) = absurd (apart k l q h e f)
count-once p false n apart only = le_of_eq (sum-empty (λ k. one (p k)) n (λ k l. at k l (p k) refl))
  where
    at : (k : ℕ) → k < n → (c : Bool) → p k ≡ c → one (p k) ≡ 0
    at k l true e = absurd (false≢true (only k l e))
    at k l false e = ap one e

-- all of the first n have A, or one of them has B
pub find : (A B : ℕ → Type 0) → ((k : ℕ) → A k ⊎ B k) → (n : ℕ) → ((k : ℕ) → k < n → A k) ⊎ ((k : ℕ) × (k < n) × B k)
find A B test zero = inl (λ k h. absurd (omega arith))
find A B test (suc n) = go (test n) (find A B test n)
  where
    here : A n → ((k : ℕ) → k < n → A k) → (k : ℕ) → (k ≡ n) ⊎ (k < n) → A k
    here a all k (inl e) = rw e a
    here a all k (inr l) = all k l

    go : A n ⊎ B n → ((k : ℕ) → k < n → A k) ⊎ ((k : ℕ) × (k < n) × B k) → ((k : ℕ) → k < suc n → A k) ⊎ ((k : ℕ) × (k < suc n) × B k)
    go (inr b) rest = inr (n, omega arith, b)
    go (inl a) (inl all) = inl (λ k h. here a all k (eq-or-lt_of_le (omega arith)))
    go (inl a) (inr w) = inr (w.0, omega (arith, w.1), w.2)
