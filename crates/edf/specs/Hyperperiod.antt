-- The least common multiple H of the periods, and what is charged in so many ticks.
use Rattle.std.specs.Prelude.{ℕ, ◌*◌, ◌/◌, ◌≤◌, ◌<◌, List, [], ◌∷◌, All, sum_by, Option, Some, None, if◌then◌else◌, nat_le}
use Rattle.std.specs.Int.{◌∣◌}
use Rattle.cache.specs.declared.units.Ticks.{Ticks}
use Rattle.cache.specs.declared.units.TheConstants.Ticks.{LONGEST}
use Rattle.edf.specs.Multiples.{lcm_of}
use Rattle.edf.specs.Bound.{Timed}
use Rattle.edf.specs.declared.charges.ChargedTask.{ChargedTask}

-- the least common multiple of a number and the periods
unfoldable pub lcm_from : ℕ → List ChargedTask → ℕ
lcm_from h [] = h
lcm_from h (t ∷ ts) = lcm_from (lcm_of h t.period.0) ts

abbrev pub hyperperiod : List ChargedTask → ℕ
hyperperiod ts = lcm_from 1 ts

-- where it is not above 250,000,000
unfoldable pub hyperperiod_within : List ChargedTask → Option Ticks
hyperperiod_within ts = if nat_le (hyperperiod ts) LONGEST then Some (record { 0 = hyperperiod ts }) else None

-- each period divides h
abbrev pub CommonMultiple : ℕ → List ChargedTask → Type 0
CommonMultiple h ts = All (λ t. t.period.0 ∣ h) ts

-- what the least common multiple is: each period divides h, and h divides every number that each period divides
pub record LeastCommon (ts : List ChargedTask) (h : ℕ) : Type 0 where
  pub some : 1 ≤ h
  pub common : CommonMultiple h ts
  pub least : (m : ℕ) → CommonMultiple m ts → h ∣ m

-- the least common multiple where it is not above 250,000,000, or that it is above
unfoldable pub IsHyperperiod : List ChargedTask → Option Ticks → Type 0
IsHyperperiod ts (Some h) = LeastCommon ts h.0 × (h.0 ≤ LONGEST)
IsHyperperiod ts None = (h : ℕ) → LeastCommon ts h → LONGEST < h

-- H / T times the charged time, and the sum of these
abbrev pub charged_within : ℕ → ChargedTask → ℕ
charged_within h t = h / t.period.0 * t.time.0

unfoldable pub all_charged_within : ℕ → List ChargedTask → ℕ
all_charged_within h ts = sum_by (charged_within h) ts

-- what a question is to be handed: tasks in range, and a common multiple of their periods
pub record Posed (ts : List ChargedTask) (h : ℕ) : Type 0 where
  pub timed : All Timed ts
  pub some : 1 ≤ h
  pub near : h ≤ LONGEST
  pub common : CommonMultiple h ts
