-- The chooser takes the first job, of the first task, that is ready.
use Prim.Native.Nat.{ℕ, zero, suc, ◌<◌}
use native.Mathlib.Nat.{eq-or-lt_of_le}
use native.Mathlib.Omega.{arith}
use mathlib.Core.Path.{◌≡◌, refl}
use mathlib.Core.Bool.{Bool, true, false}
use mathlib.Core.Logic.{◌⊎◌, inl, inr}
use Rattle.runs.specs.model.Jobs.{Slot, idle, job}
use Rattle.runs.specs.machine.Chooser.{first_job, first_task}

module _ (ready : ℕ → ℕ → Bool) where
  abbrev JobOk : ℕ → ℕ → Slot → Type 0
  JobOk j w idle = (n : ℕ) → n < w → ready j n ≡ false
  JobOk j w (job k m) = (k ≡ j) × (ready k m ≡ true) × ((n : ℕ) → n < m → ready k n ≡ false)

  job-ok : (j w : ℕ) → JobOk j w (first_job ready j w)
  unfolding first_job
  job-ok j zero = λ n l. absurd (omega arith)
  job-ok j (suc w) = go (first_job ready j w) (job-ok j w)
    where
      last : ((n : ℕ) → n < w → ready j n ≡ false) → ready j w ≡ false → (n : ℕ) → (n ≡ w) ⊎ (n < w) → ready j n ≡ false
      last p e n (inl q) = rw q e
      last p e n (inr l) = p n l

      at : (b : Bool) → ready j w ≡ b → ((n : ℕ) → n < w → ready j n ≡ false) → JobOk j (suc w) (elim b [ true ↦ job j w | false ↦ idle ])
      at true e p = (refl, e, p)
      at false e p = λ n l. last p e n (eq-or-lt_of_le (omega arith))

      go : (s : Slot) → JobOk j w s → JobOk j (suc w) (elim s [ idle ↦ elim (ready j w) [ true ↦ job j w | false ↦ idle ] | job k m ↦ job k m ])
      go idle p = at (ready j w) refl p
      go (job k m) p = p

  abbrev pub TaskOk : ℕ → ℕ → Slot → Type 0
  TaskOk w i idle = (j n : ℕ) → j < i → n < w → ready j n ≡ false
  TaskOk w i (job k m) = (k < i) × (ready k m ≡ true) × ((j n : ℕ) → j < k → n < w → ready j n ≡ false) × ((n : ℕ) → n < m → ready k n ≡ false)

  pub task-ok : (w i : ℕ) → TaskOk w i (first_task ready w i)
  unfolding first_task
  task-ok w zero = λ j n l. absurd (omega arith)
  task-ok w (suc i) = go (first_task ready w i) (task-ok w i)
    where
      last : ((j n : ℕ) → j < i → n < w → ready j n ≡ false) → ((n : ℕ) → n < w → ready i n ≡ false)
          → (j n : ℕ) → (j ≡ i) ⊎ (j < i) → n < w → ready j n ≡ false
      last p q j n (inl e) l = rw e (q n l)
      last p q j n (inr d) l = p j n d l

      at : (s : Slot) → JobOk i w s → ((j n : ℕ) → j < i → n < w → ready j n ≡ false) → TaskOk w (suc i) s
      at idle q p = λ j n d l. last p q j n (eq-or-lt_of_le (omega arith)) l
      at (job k m) q p = (omega (arith, q.0), q.1, (λ j n d l. p j n (omega (arith, q.0)) l), q.2)

      go : (s : Slot) → TaskOk w i s → TaskOk w (suc i) (elim s [ idle ↦ first_job ready i w | job k m ↦ job k m ])
      go idle p = at (first_job ready i w) (job-ok i w) p
      go (job k m) p = (omega (arith, p.0), p.1, p.2, p.3)
