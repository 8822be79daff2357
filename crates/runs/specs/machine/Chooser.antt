-- The machine, 1 of 3: the first job, of the first task, that is pending. Read on in Programs.
use Rattle.std.specs.Prelude.{ℕ, zero, suc, Bool, true, false, ◌&&◌, leb, ltb}
use Rattle.runs.specs.model.Jobs.{Slot, idle, job}

-- the first of the first w jobs of the task at j that is ready
unfoldable pub first_job : (ℕ → ℕ → Bool) → ℕ → ℕ → Slot
first_job ready j zero = idle
first_job ready j (suc n) = elim (first_job ready j n) [ idle ↦ elim (ready j n) [ true ↦ job j n | false ↦ idle ] | job k m ↦ job k m ]

-- and of the first i tasks
unfoldable pub first_task : (ℕ → ℕ → Bool) → ℕ → ℕ → Slot
first_task ready w zero = idle
first_task ready w (suc j) = elim (first_task ready w j) [ idle ↦ first_job ready j w | job k m ↦ job k m ]

-- what is released and needs more than it has worked
abbrev pub ready_at : (ℕ → ℕ → ℕ) → (ℕ → ℕ → ℕ) → ℕ → (ℕ → ℕ → ℕ) → ℕ → ℕ → Bool
ready_at released needs t done j n = leb (released j n) t && ltb (done j n) (needs j n)
