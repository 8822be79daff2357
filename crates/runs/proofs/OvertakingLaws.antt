-- Who has the processor between two ticks of a job: a job that is overtaken is overtaken by a task above.
use Prim.Native.Nat.{ℕ, ◌≤◌, ◌<◌}
use native.Mathlib.Nat.{eq-or-lt_of_le, lt_of_not-le}
use native.Mathlib.Decide.{dec_le}
use native.Mathlib.Omega.{arith}
use mathlib.Core.Path.{◌≡◌, refl, ap, sym, subst, ◌∙◌}
use mathlib.Core.Bool.{Bool, true, false}
use mathlib.Core.Logic.{◌⊎◌, inl, inr}
use Rattle.std.proofs.lemmas.Bool.{both_ways}
use Rattle.runs.specs.model.Jobs.{Task, Slot, idle, job, Run, given, Pending, Constrained, JobsKept}
use Rattle.runs.proofs.JobLaws.{AtLeast, Kept, given-self, served-mono, arrives-apart}
use Rattle.std.proofs.lemmas.Grind.{common_steps}

abbrev pub task_of : Slot → ℕ
task_of idle = 0
task_of (job j n) = j

abbrev pub index_of : Slot → ℕ
index_of idle = 0
index_of (job j n) = n

pub same-task : {j n k m : ℕ} → job j n ≡ job k m → j ≡ k
same-task e = ap task_of e

pub same_index : {j n k m : ℕ} → job j n ≡ job k m → n ≡ m
same_index e = ap index_of e

-- ---- the scheduler

-- the scheduler as the argument sees it, with accesses or without: a job that has had the processor, and is pending, gives it to tasks above only
pub record Unblocked (tasks : ℕ → Task) (size : ℕ) (z : Run) : Type 0 where
  pub jobs : JobsKept tasks size z
  pub only_pending : (t j n : ℕ) → z.has t ≡ job j n → (j < size) × Pending z j n t
  pub once_begun : (s t j n : ℕ) → s < t → z.has s ≡ job j n → Pending z j n t → AtLeast j (z.has t)
  pub in_order : (t j n m : ℕ) → z.has t ≡ job j m → Pending z j n t → m ≤ n

module _ (tasks : ℕ → Task) (size : ℕ) (z : Run) (legal : Unblocked tasks size z) (sane : (j : ℕ) → j < size → Constrained (tasks j)) where
  abbrev h : Run
  h = z

  -- the history is one of the model without a cache, in which the ticks of waiting are lost
  pub kept : Kept tasks size h
  kept = record { jobs = legal.jobs; only_pending = λ t j n e. at t j n (z.waits t) e }
    where
      at : (t j n : ℕ) (b : Bool) → elim b [ true ↦ idle | false ↦ z.has t ] ≡ job j n → (j < size) × Pending h j n t
      at t j n true e = absurd (both_ways (given j n idle) refl (given-self j n idle e))
      at t j n false e = legal.only_pending t j n e

  pend : (t j n : ℕ) → z.has t ≡ job j n → Pending h j n t
  pend t j n e = (legal.only_pending t j n e).1

  valid : (t j n : ℕ) → z.has t ≡ job j n → j < size
  valid t j n e = (legal.only_pending t j n e).0

  -- a job that has begun is not overtaken by a lower one
  kept-up : (s t j n k m : ℕ) → s < t → z.has s ≡ job j n → z.has t ≡ job k m → j < k → Pending h j n t → ⊥
  kept-up s t j n k m d e f b p = let w : k ≤ j = subst (AtLeast j) f (legal.once_begun s t j n d e p) in omega arith

  -- a job that has the processor after a lower one had it, had it not before
  pub newer : (x v w k m j l : ℕ) → z.has x ≡ job k m → z.has v ≡ job j l → x < v → j < k → z.has w ≡ job j l → x < w
  newer x v w k m j l e f d b g = go (dec_le w x)
    where
      at : (w ≡ x) ⊎ (w < x) → ⊥
      at (inl q) = let r : job j l ≡ job k m = sym g ∙ ap z.has q ∙ e in omega (arith, same-task r)
      at (inr q) =
          kept-up w x j l k m q g e b (omega (arith, (pend w j l g).0), omega (arith, (pend v j l f).1, served-mono h j l x v (omega arith)))

      go : Dec (w ≤ x) → x < w
      go (no q) = lt_of_not-le q
      go (yes q) = absurd (at (eq-or-lt_of_le q))

  -- between two ticks of a job, the processor is with it or with a task above
  pub between : (p v t k m : ℕ) → z.has p ≡ job k m → z.has t ≡ job k m → p ≤ v → v ≤ t
      → (j : ℕ) × (l : ℕ) × (z.has v ≡ job j l) × ((j < k) ⊎ ((j ≡ k) × (l ≡ m)))
  between p v t k m e f a b = start (eq-or-lt_of_le a)
    where
      waiting : Pending h k m v
      waiting = (omega (arith, (pend p k m e).0), omega (arith, (pend t k m f).1, served-mono h k m v t b))

      same : (l : ℕ) → z.has v ≡ job k l → l ≡ m
      same l g = at (eq-or-lt_of_le (legal.in_order v k m l g waiting))
        where
          at : (l ≡ m) ⊎ (l < m) → l ≡ m
          at (inl q) = q
          at (inr d) =
              absurd (let w = legal.in_order p k l m e (
                omega (
                  arith,
                  (pend p k m e).0,
                  arrives-apart tasks size h kept k l m (valid p k m e) d,
                  legal.jobs.not_before k m (valid p k m e),
                  legal.jobs.not_after k l (valid p k m e),
                  (sane k (valid p k m e)).jitter,
                  (sane k (valid p k m e)).deadline,
                ),
                omega (arith, (pend v k l g).1, served-mono h k l p v a),
              ) in omega arith)

      which : (j l : ℕ) → z.has v ≡ job j l → (j ≡ k) ⊎ (j < k) → (j < k) ⊎ ((j ≡ k) × (l ≡ m))
      which j l g (inl q) = inr (q, same l (g ∙ ap (λ (x : ℕ). job x l) q))
      which j l g (inr q) = inl q

      go : (s : Slot) → z.has v ≡ s → AtLeast k s → (j : ℕ) × (l : ℕ) × (z.has v ≡ job j l) × ((j < k) ⊎ ((j ≡ k) × (l ≡ m)))
      go idle g q = absurd q
      go (job j l) g q = (j, l, g, which j l g (eq-or-lt_of_le q))

      start : (p ≡ v) ⊎ (p < v) → (j : ℕ) × (l : ℕ) × (z.has v ≡ job j l) × ((j < k) ⊎ ((j ≡ k) × (l ≡ m)))
      start (inl q) = (k, m, ap z.has (sym q) ∙ e, inr (refl, refl))
      start (inr q) = go (z.has v) refl (legal.once_begun p v k m q e waiting)

  -- and where it is not with the job itself, with a task above
  pub between-other : (p v t k m : ℕ) → z.has p ≡ job k m → z.has t ≡ job k m → p ≤ v → v ≤ t → given k m (z.has v) ≡ false
      → (j : ℕ) × (l : ℕ) × (z.has v ≡ job j l) × (j < k)
  between-other p v t k m e f a b o = go (between p v t k m e f a b)
    where
      go : (j : ℕ) × (l : ℕ) × (z.has v ≡ job j l) × ((j < k) ⊎ ((j ≡ k) × (l ≡ m))) → (j : ℕ) × (l : ℕ) × (z.has v ≡ job j l) × (j < k)
      go p = grind (arith, common_steps)
