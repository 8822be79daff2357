-- The model, 1 of 5: tasks, their jobs, and what is promised of them. Nothing in the model is about response times. Read on in Accesses.
use Rattle.std.specs.Prelude.{ℕ, suc, ◌+◌, ◌≤◌, ◌<◌, Bool, true, false, ◌&&◌, eqb}
use Rattle.runs.specs.Sums.{sum, one}

-- tasks stand at positions, of which 0 is the highest priority. What is promised of a task: its jobs arrive at least a period apart, are released
-- at most the jitter later, and need at most the cost; it has at most `useful c` useful blocks in cache set c, and uses only `evicting` cache sets
pub record Task : Type 0 where
  pub period : ℕ
  pub jitter : ℕ
  pub cost : ℕ
  pub deadline : ℕ
  pub useful : ℕ → ℕ
  pub evicting : ℕ → Bool

-- what is asked of a task set: constrained deadlines
pub record Constrained (t : Task) : Type 0 where
  pub live : 1 ≤ t.period
  pub jitter : t.jitter ≤ t.deadline
  pub deadline : t.deadline ≤ t.period

-- what a tick is given to: to nothing, or to job n of the task at j
pub data Slot : Type 0 where
  idle : Slot
  job : ℕ → ℕ → Slot

-- what happens. When job n of the task at j arrives, when it is released, and how many ticks of work it needs: a job that needs none is as good as
-- none, so a task may stop. Who has the processor in tick t, and whether it waits for a reload there. Whether it uses cache set c in tick t, and
-- which memory block. Whether it takes an access with that tick, and which; and whether the access that is taken in tick u is on in tick t
pub record Run : Type 0 where
  pub arrives : ℕ → ℕ → ℕ
  pub released : ℕ → ℕ → ℕ
  pub needs : ℕ → ℕ → ℕ
  pub has : ℕ → Slot
  pub waits : ℕ → Bool
  pub uses : ℕ → ℕ → Bool
  pub block : ℕ → ℕ → ℕ
  pub takes : ℕ → Bool
  pub which : ℕ → ℕ
  pub on : ℕ → ℕ → Bool

-- what tick t is worked on: nothing, while a job waits
abbrev pub works : Run → ℕ → Slot
works z t = elim (z.waits t) [ true ↦ idle | false ↦ z.has t ]

-- this tick is given to job n of the task at j
abbrev pub given : ℕ → ℕ → Slot → Bool
given j n idle = false
given j n (job k m) = eqb k j && eqb m n

-- the ticks before t in which job n of the task at j has worked
abbrev pub served : Run → ℕ → ℕ → ℕ → ℕ
served z j n t = sum (λ s. one (given j n (works z s))) t

-- it has worked all that it needs
abbrev pub Complete : Run → ℕ → ℕ → ℕ → Type 0
Complete z j n t = z.needs j n ≤ served z j n t

-- it is released, and has not all that it needs
abbrev pub Pending : Run → ℕ → ℕ → ℕ → Type 0
Pending z j n t = (z.released j n ≤ t) × (served z j n t < z.needs j n)

-- the jobs are as promised of their tasks
pub record JobsKept (tasks : ℕ → Task) (size : ℕ) (z : Run) : Type 0 where
  pub apart : (j n : ℕ) → j < size → z.arrives j n + (tasks j).period ≤ z.arrives j (suc n)
  pub not_before : (j n : ℕ) → j < size → z.arrives j n ≤ z.released j n
  pub not_after : (j n : ℕ) → j < size → z.released j n ≤ z.arrives j n + (tasks j).jitter
  pub no_more : (j n : ℕ) → j < size → z.needs j n ≤ (tasks j).cost
