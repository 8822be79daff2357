-- The model, 2 of 5: jobs that hold a resource for some of their time, by accesses that are apart or nested. Read on in Schedule.
use Rattle.std.specs.Prelude.{ℕ, ◌≤◌, ◌<◌, ◌≡◌, true}
use Rattle.runs.specs.model.Jobs.{Run, job, Pending}

-- what is promised of an access: whose jobs take it; its ceiling, a position: only tasks above it run while the access is held; the ticks that it
-- takes alone, from the worst content of the cache; and how many useful blocks it has in each cache set
pub record Access : Type 0 where
  pub task : ℕ
  pub ceiling : ℕ
  pub length : ℕ
  pub useful : ℕ → ℕ

-- the access taken in tick u is held when tick t begins
pub record Holding (z : Run) (u t : ℕ) : Type 0 where
  pub taken : z.takes u ≡ true
  pub since : u < t
  pub still : z.on u t ≡ true

-- an access is one of those that are promised, taken by a job of its task, and on without a break; those of a job are apart or nested, and given
-- back before the job ends
pub record AccessesKept (accesses : ℕ → Access) (many : ℕ) (z : Run) : Type 0 where
  pub whose : (u : ℕ) → z.takes u ≡ true → (z.which u < many) × (m : ℕ) × (z.has u ≡ job (accesses (z.which u)).task m)
  pub whole : (u s t : ℕ) → z.takes u ≡ true → u ≤ s → s ≤ t → z.on u t ≡ true → z.on u s ≡ true
  pub nested : (u v t k m : ℕ) → Holding z u v → Holding z v t → z.has u ≡ job k m → z.has v ≡ job k m → z.on u t ≡ true
  pub gives_back : (u t k m : ℕ) → Holding z u t → z.has u ≡ job k m → Pending z k m t
