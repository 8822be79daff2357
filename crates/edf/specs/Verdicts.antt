-- The verdict.
use Rattle.std.specs.Prelude.{ℕ, zero, suc, Bool, true, ◌&&◌, List, if◌then◌else◌, nat_le}
use Rattle.edf.specs.declared.Verdict.{Verdict}
use Rattle.edf.specs.declared.Verdict.TheVariants.{No, Yes}
use Rattle.edf.specs.declared.charges.ChargedTask.{ChargedTask}
use Rattle.edf.specs.Bound.{demand_bound, InTime}
use Rattle.edf.specs.Hyperperiod.{all_charged_within}

-- what it means: yes exactly if at every whole time the demand bound is no larger than that time
unfoldable pub IsVerdict : List ChargedTask → Verdict → Type 0
IsVerdict ts Yes = InTime ts
IsVerdict ts No = InTime ts → ⊥

-- how it is computed: at each time below n the demand bound is no larger ..
unfoldable pub in_time_below : List ChargedTask → ℕ → Bool
in_time_below ts zero = true
in_time_below ts (suc n) = nat_le (demand_bound ts n) n && in_time_below ts n

-- .. where the charged times fit, up to a common multiple of the periods. proofs/VerdictLaws.antt has that this is enough
unfoldable pub edf_verdict : List ChargedTask → ℕ → Verdict
edf_verdict ts h = if nat_le (all_charged_within h ts) h && in_time_below ts (suc h) then Yes else No
