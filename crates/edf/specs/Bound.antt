-- The demand bound of charged tasks: what the jobs ask for that are released and due within some time, whenever that begins.
use Rattle.std.specs.Prelude.{ℕ, ◌+◌, ◌-◌, ◌*◌, ◌/◌, ◌≤◌, ◌<◌, List, sum_by, Option, Some, None, if◌then◌else◌, nat_le}
use Rattle.cache.specs.declared.units.Ticks.{Ticks}
use Rattle.cache.specs.declared.units.TheConstants.Ticks.{LONGEST}
use Rattle.edf.specs.declared.charges.ChargedTask.{ChargedTask}

-- max{0, ⌊(x − D) / T⌋ + 1}: how many jobs of a task are released and due within x ticks
unfoldable pub jobs_within : ℕ → ChargedTask → ℕ
jobs_within x t = if nat_le t.deadline.0 x then (x - t.deadline.0) / t.period.0 + 1 else 0

-- what they ask for
abbrev pub asked_within : ℕ → ChargedTask → ℕ
asked_within x t = jobs_within x t * t.time.0

-- the sum over the tasks
unfoldable pub demand_bound : List ChargedTask → ℕ → ℕ
demand_bound ts x = sum_by (asked_within x) ts

-- at every whole time the demand bound is no larger than that time
abbrev pub InTime : List ChargedTask → Type 0
InTime ts = (x : ℕ) → demand_bound ts x ≤ x

-- at each time from a on and before b it is no larger
abbrev pub InTimeFrom : List ChargedTask → ℕ → ℕ → Type 0
InTimeFrom ts a b = (x : ℕ) → a ≤ x → x < b → demand_bound ts x ≤ x

-- the last time from a on and before b at which it is larger, or that there is none
unfoldable pub LastOverrun : List ChargedTask → ℕ → ℕ → Option Ticks → Type 0
LastOverrun ts a b (Some x) = (a ≤ x.0) × (x.0 < b) × (x.0 < demand_bound ts x.0) × InTimeFrom ts (x.0 + 1) b
LastOverrun ts a b None = InTimeFrom ts a b

-- the first time of all at which it is larger, which is no later than h, or that there is none
unfoldable pub FirstOverrun : List ChargedTask → ℕ → Option Ticks → Type 0
FirstOverrun ts h (Some x) = (x.0 ≤ h) × (x.0 < demand_bound ts x.0) × InTimeFrom ts 0 x.0
FirstOverrun ts h None = InTime ts

-- a number, unless it is above x
abbrev pub unless_above : ℕ → ℕ → Option ℕ
unless_above x n = if nat_le n x then Some n else None

-- the ranges of a task
pub record Timed (t : ChargedTask) : Type 0 where
  pub deadline : 1 ≤ t.deadline.0
  pub order : t.deadline.0 ≤ t.period.0
  pub period-most : t.period.0 ≤ LONGEST
