-- When all that the tasks above have released before is complete, and when not.
use Prim.Native.Nat.{ℕ, suc, ◌≤◌, ◌<◌}
use native.Mathlib.Omega.{arith}
use mathlib.Core.Logic.{◌⊎◌, inl, inr}
use Rattle.runs.specs.model.Jobs.{Task, Run, served, Complete, Pending}
use Rattle.runs.proofs.SumLaws.{find}
use Rattle.runs.proofs.JobLaws.{Kept, index-most, served-mono}
use Rattle.std.proofs.lemmas.Grind.{common_steps}

-- all jobs of the tasks above i that are released before t are complete
abbrev pub Quiet : Run → ℕ → ℕ → Type 0
Quiet h i t = (j n : ℕ) → j < i → h.released j n < t → Complete h j n t

-- one of them is not
abbrev pub Hungry : Run → ℕ → ℕ → Type 0
Hungry h i t = (j : ℕ) × (n : ℕ) × (j < i) × (h.released j n < t) × (served h j n t < h.needs j n)

module _ (tasks : ℕ → Task) (size : ℕ) (h : Run) (kept : Kept tasks size h) (i : ℕ) (there : i ≤ size)
    (live : (j : ℕ) → j < size → 1 ≤ (tasks j).period) where
  pub decide : (t : ℕ) → Quiet h i t ⊎ Hungry h i t
  decide t = go (find All Some (λ j. find (Fine j) (Owed j) (test j) t) i)
    where
      Fine : ℕ → ℕ → Type 0
      Fine j n = h.released j n < t → Complete h j n t

      Owed : ℕ → ℕ → Type 0
      Owed j n = (h.released j n < t) × (served h j n t < h.needs j n)

      All : ℕ → Type 0
      All j = (n : ℕ) → n < t → Fine j n

      Some : ℕ → Type 0
      Some j = (n : ℕ) × (n < t) × Owed j n

      test : (j n : ℕ) → Fine j n ⊎ Owed j n
      test j n = grind (arith, common_steps)

      go : ((j : ℕ) → j < i → All j) ⊎ ((j : ℕ) × (j < i) × Some j) → Quiet h i t ⊎ Hungry h i t
      go (inl all) = inl (λ j n l p. all j l n (omega (arith, index-most tasks size h kept j n (omega arith) (live j (omega arith)))) p)
      go (inr w) = inr (w.0, w.2.0, w.1, w.2.2.0, w.2.2.1)

-- a job that is not complete after a tick was pending in it
pub hungry-pending : (h : Run) (i s : ℕ) → Hungry h i (suc s) → (j : ℕ) × (n : ℕ) × (j < i) × Pending h j n s
hungry-pending h i s w =
    (w.0, w.1, w.2, (omega (arith, w.3), omega (arith, w.4, served-mono h w.0 w.1 s (suc s) (omega arith))))
