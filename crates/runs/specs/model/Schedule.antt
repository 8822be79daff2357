-- The model, 3 of 5: one processor, pre-emptive, by fixed priorities and the stack resource policy. Read on in Cache.
use Rattle.std.specs.Prelude.{ℕ, ◌≤◌, ◌<◌, ◌≡◌, ◌⊎◌}
use Rattle.runs.specs.model.Jobs.{Run, job, Pending}
use Rattle.runs.specs.model.Accesses.{Access, Holding}

-- `only_pending`: the processor is with a job that is released and has work left. `in_order`: the jobs of a task are taken in order.
-- `highest`: in a tick in which a job of j is pending, the processor is with a task that is not below j, or with a job that has taken before an
-- access whose ceiling is not below j, and holds it yet.
-- `above_only`: while a job holds an access, the processor is with it, or with a task above the ceiling
pub record Scheduled (size : ℕ) (accesses : ℕ → Access) (z : Run) : Type 0 where
  pub only_pending : (t j n : ℕ) → z.has t ≡ job j n → (j < size) × Pending z j n t
  pub in_order : (t j n m : ℕ) → z.has t ≡ job j m → Pending z j n t → m ≤ n
  pub highest : (t j n : ℕ) → j < size → Pending z j n t
      → (k : ℕ) × (m : ℕ) × (z.has t ≡ job k m)
      × ((k ≤ j) ⊎ ((u : ℕ) × Holding z u t × (z.has u ≡ job k m) × ((accesses (z.which u)).ceiling ≤ j)))
  pub above_only : (u t k m j l : ℕ) → Holding z u t → z.has u ≡ job k m → z.has t ≡ job j l
      → (j < (accesses (z.which u)).ceiling) ⊎ (job j l ≡ job k m)
