-- Facts about jobs: what they are served, and how many are released.
use Prim.Native.Nat.{ℕ, zero, suc, ◌+◌, ◌-◌, ◌*◌, ◌≤◌, ◌<◌}
use native.Mathlib.Nat.{mul-le-mul_right, suc-mul}
use native.Mathlib.Omega.{arith}
use native.Mathlib.Nat.{lt_of_not-le, le_trans}
use mathlib.Core.Path.{◌≡◌, refl, ap}
use mathlib.Core.Bool.{Bool, true, false, ◌&&◌}
use lib.Dec.{eqb, leb, ltb}
use borrow.Author.Tests.{eqb-true, eq-eqb, leb-true, leb-false, ltb-true, ltb-false}
use Rattle.std.proofs.lemmas.Bool.{and_parts}
use Rattle.search.specs.Demand.{ceil}
use Rattle.search.proofs.DemandLaws.{ceil-le}
use Rattle.runs.specs.Sums.{sum, one}
use Rattle.runs.specs.model.Jobs.{Task, Slot, idle, job, Run, given, served, Complete, Pending, works, JobsKept}
use Rattle.runs.specs.Promises.{inside}
use Rattle.runs.proofs.SumLaws.{sum-le, sum-none, sum-empty, sum-split, sum-has, count-close, count-once}
use Rattle.std.proofs.lemmas.Grind.{common_steps}

-- ---- what the argument rests on

-- the tick is given to a task of the priority of j, or of a higher one
abbrev pub AtLeast : ℕ → Slot → Type 0
AtLeast j idle = ⊥
AtLeast j (job k m) = k ≤ j

-- the jobs are as promised, and none is run before its release or after its end
pub record Kept (tasks : ℕ → Task) (size : ℕ) (h : Run) : Type 0 where
  pub jobs : JobsKept tasks size h
  pub only_pending : (t j n : ℕ) → works h t ≡ job j n → (j < size) × Pending h j n t

-- how many of its first m jobs the task at j releases in the x ticks from a on
abbrev pub releases_of : Run → ℕ → ℕ → ℕ → ℕ → ℕ
releases_of h j m a x = sum (λ n. one (inside a x (h.released j n))) m

-- ---- one tick

pub given_is : (j n : ℕ) (s : Slot) → given j n s ≡ true → s ≡ job j n
given_is j n s e = grind (arith, common_steps)

pub given-self : (j n : ℕ) (s : Slot) → s ≡ job j n → given j n s ≡ true
given-self j n s e = rw (e, eq-eqb j j refl, eq-eqb n n refl) refl

pub at_least : (j : ℕ) (s : Slot) → AtLeast j s → (k : ℕ) × (m : ℕ) × (s ≡ job k m) × (k ≤ j)
at_least j idle p = absurd p
at_least j (job k m) p = (k, m, refl, p)

-- a tick that is given to one of the first n jobs of one of the first i tasks counts
pub tick-counts : (s : Slot) (i n k m : ℕ) → s ≡ job k m → k < i → m < n → 1 ≤ sum (λ j. sum (λ l. one (given j l s)) n) i
tick-counts s i n k m e h l =
    let w : one (given k m s) ≡ 1 = ap one (given-self k m s e) in
    omega (arith, sum-has (λ l. one (given k l s)) n m l, sum-has (λ j. sum (λ l. one (given j l s)) n) i k h)

-- a tick is given to one job at most
pub given-once : (s : Slot) (i n : ℕ) → sum (λ j. sum (λ l. one (given j l s)) n) i ≤ 1
given-once idle i n = le-of-eq' (sum-empty _ i (λ j h. sum-none n))
  where
    le-of-eq' : {a : ℕ} → a ≡ 0 → a ≤ 1
    le-of-eq' e = omega arith
given-once (job k m) i n =
    le_trans
    (sum-le _ (λ j. one (eqb k j)) i (λ j h. count-once (λ l. eqb k j && eqb m l) (eqb k j) n (λ a b d l e f. apart a b d
    (and_parts (eqb k j) (eqb m a) e).1 (and_parts (eqb k j) (eqb m b) f).1) (λ l h e. (and_parts (eqb k j) (eqb m l) e).0)))
    (count-once (λ j. eqb k j) true i (λ a b d l e f. differ a b d e f) (λ l h e. refl))
  where
    apart : (a b : ℕ) → a < b → eqb m a ≡ true → eqb m b ≡ true → ⊥
    apart a b d e f = omega (arith, eqb-true m a e, eqb-true m b f)

    differ : (a b : ℕ) → a < b → eqb k a ≡ true → eqb k b ≡ true → ⊥
    differ a b d e f = omega (arith, eqb-true k a e, eqb-true k b f)

-- ---- what a job is served

pub served-mono : (h : Run) (j n a b : ℕ) → a ≤ b → served h j n a ≤ served h j n b
served-mono h j n a b l =
    let e : a + (b - a) ≡ b = omega arith in
    let w = sum-split (λ s. one (given j n (works h s))) a (b - a) in
    let v = rw e at w in omega arith

module _ (tasks : ℕ → Task) (size : ℕ) (h : Run) (kept : Kept tasks size h) where
  -- no more than it needs
  pub served-most : (j n t : ℕ) → served h j n t ≤ h.needs j n
  unfolding sum
  served-most j n zero = omega arith
  served-most j n (suc t) = go (given j n (works h t)) refl (served-most j n t)
    where
      go : (b : Bool) → given j n (works h t) ≡ b → served h j n t ≤ h.needs j n → served h j n t + one (given j n (works h t)) ≤ h.needs j n
      go b e rest = grind (arith, common_steps)

  -- and nothing before its release
  pub served-none : (j n t : ℕ) → t ≤ h.released j n → served h j n t ≡ 0
  unfolding sum
  served-none j n zero l = refl
  served-none j n (suc t) l = go (given j n (works h t)) refl (served-none j n t (omega arith))
    where
      go : (b : Bool) → given j n (works h t) ≡ b → served h j n t ≡ 0 → served h j n t + one (given j n (works h t)) ≡ 0
      go b e rest = grind (arith, common_steps)

  -- in a stretch at whose start all released before are complete, only the jobs that are released in it are served
  pub served-inside : (j n a x : ℕ) → j < size → (h.released j n < a → Complete h j n a)
      → sum (λ s. one (given j n (works h (a + s)))) x ≤ one (inside a x (h.released j n)) * (tasks j).cost
  served-inside j n a x l quiet = go (leb a (h.released j n)) (ltb (h.released j n) (a + x)) refl refl
    where
      split : served h j n (a + x) ≡ served h j n a + sum (λ s. one (given j n (works h (a + s)))) x
      split = sum-split (λ s. one (given j n (works h s))) a x

      go : (b c : Bool) → leb a (h.released j n) ≡ b → ltb (h.released j n) (a + x) ≡ c
          → sum (λ s. one (given j n (works h (a + s)))) x ≤ one (b && c) * (tasks j).cost
      go true true e f = omega (arith, split, served-most j n (a + x), kept.jobs.no_more j n l)
      go true false e f = omega (arith, split, served-none j n (a + x) (ltb-false _ _ f))
      go false c e f = omega (arith, split, served-most j n (a + x), quiet (leb-false _ _ e))

  -- ---- how many jobs are released

  arrives-later : (j : ℕ) → j < size → (n k : ℕ) → h.arrives j n + k * (tasks j).period ≤ h.arrives j (n + k)
  arrives-later j l n zero = let e : n + 0 ≡ n = omega arith in rw e (omega arith)
  arrives-later j l n (suc k) =
      let e : n + suc k ≡ suc (n + k) = omega arith in
      rw e (omega (arith, arrives-later j l n k, kept.jobs.apart j (n + k) l, suc-mul k (tasks j).period))

  -- a later job arrives a period later at least
  pub arrives-apart : (j m n : ℕ) → j < size → m < n → h.arrives j m + (tasks j).period ≤ h.arrives j n
  arrives-apart j m n l d =
      let e : m + (n - m) ≡ n = omega arith in
      let w = rw e at (arrives-later j l m (n - m)) in
      omega (arith, mul-le-mul_right {m = 1} {n = n - m} (tasks j).period (omega arith))

  -- job n is not released before tick n
  pub index-most : (j n : ℕ) → j < size → 1 ≤ (tasks j).period → n ≤ h.released j n
  index-most j n l live = omega (arith, go n, kept.jobs.not_before j n l)
    where
      go : (n : ℕ) → n ≤ h.arrives j n
      go zero = omega arith
      go (suc n) = omega (arith, go n, kept.jobs.apart j n l)

  -- THE CEILING: in x ticks a task releases at most ⌈(x + J) / T⌉ jobs
  pub releases-most : (j m a x : ℕ) → j < size → 1 ≤ (tasks j).period
      → releases_of h j m a x ≤ ceil (x + (tasks j).jitter) (tasks j).period
  releases-most j m a x l live = count-close (λ n. inside a x (h.released j n)) q m (λ b c d l e f. close b c d e f)
    where
      q : ℕ
      q = ceil (x + (tasks j).jitter) (tasks j).period

      close : (b c : ℕ) → b ≤ c → inside a x (h.released j b) ≡ true → inside a x (h.released j c) ≡ true → c < b + q
      close b c d e f =
          let e₀ = leb-true a (h.released j b) (and_parts (leb a (h.released j b)) (ltb (h.released j b) (a + x)) e).0 in
          let f₁ = ltb-true (h.released j c) (a + x) (and_parts (leb a (h.released j c)) (ltb (h.released j c) (a + x)) f).1 in
          let r : b + (c - b) ≡ c = omega arith in
          let w = rw r at (arrives-later j l b (c - b)) in
          lt_of_not-le (λ z.
          let v = (ceil-le (x + (tasks j).jitter) (c - b) (tasks j).period live).0 (omega arith) in
          omega (arith, kept.jobs.not_after j b l, kept.jobs.not_before j c l))
