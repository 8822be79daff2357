-- Earliest deadline first, of a text: what is refused of its periods, and what the verdict means.
use Rattle.std.proofs.Common.{◌≡◌, ℕ, ◌∙◌, List, take, Option, Some, None, Result, Ok, Err, ok_or}
use Rattle.std.specs.List.{All}
use Rattle.cache.specs.declared.units.Ticks.{Ticks}
use Rattle.texts.specs.declared.refusals.Refusal.{Refusal}
use Rattle.texts.specs.declared.refusals.Reason.TheVariants.{LongHyperperiod}
use Rattle.texts.specs.Numbers.{untold}
use Rattle.table.specs.declared.Table.{Table}
use Rattle.table.proofs.AcceptedLaws.{accepted-table}
use Rattle.edf.specs.declared.Verdict.{Verdict}
use Rattle.edf.specs.declared.charges.ChargedTask.{ChargedTask}
use Rattle.edf.specs.Charges.{charged_at, charged_tasks, no_charged_task}
use Rattle.edf.specs.Bound.{Timed}
use Rattle.search.specs.Positions.{front}
use Rattle.table.specs.Accepted.{AcceptedTable}
use Rattle.edf.specs.Hyperperiod.{hyperperiod_within, Posed}
use Rattle.edf.specs.Verdicts.{edf_verdict}
use Rattle.edf.proofs.ChargeLaws.{charged-timed, front-charged}
use Rattle.edf.proofs.HyperperiodLaws.{within-least, posed}
use Rattle.edf.proofs.VerdictLaws.{verdict-means}
use Rattle.crpd.specs.Operations.{hyperperiod_in, verdict_in, edf_to}
use Rattle.crpd.specs.Meanings.{IsTextVerdict}
use Rattle.crpd.proofs.PlainLaws.{plain-passes}

-- ---- the tasks that are charged stand at the front of a list

module _ (table : Table) (l : List ChargedTask) (e : l ≡ front no_charged_task (charged_at table) table.count) where
  pub charged-are : take table.count l ≡ charged_tasks table
  charged-are = rw e (front-charged table)

  pub all-timed : AcceptedTable table → All Timed (take table.count l)
  all-timed p = rw charged-are (charged-timed table p)

  pub long-told : (r : Refusal) → Err r ≡ ok_or (hyperperiod_within (take table.count l)) (untold LongHyperperiod) → Err r ≡ verdict_in table
  long-told r q = let q' : Err r ≡ hyperperiod_in table = rw charged-are at q in rw (← q')

  module _ (h : Ticks) (q : Ok h ≡ ok_or (hyperperiod_within (take table.count l)) (untold LongHyperperiod)) where
    some-within : (o : Option Ticks) → Ok h ≡ ok_or o (untold LongHyperperiod) → Some h ≡ o
    some-within None q = absurd cc
    some-within (Some k) q = cc

    pub posed-front : AcceptedTable table → Posed (take table.count l) h.0
    posed-front p = posed (take table.count l) h (all-timed p) (some-within _ q)

    pub verdict-told : (v : Verdict) → v ≡ edf_verdict (take table.count l) h.0 → Ok v ≡ verdict_in table
    verdict-told v d = let q' : Ok h ≡ hyperperiod_in table = rw charged-are at q in rw (← q', d, charged-are)

-- ---- what the verdict means

pub text_verdict : (text : List ℕ) (r : Result Verdict Refusal) → r ≡ edf_to text → IsTextVerdict text r
unfolding edf_to
text_verdict text r e table reads plain h least near =
    let ts = charged_tasks table in
    let accepted = accepted-table text table reads in
    let timed = charged-timed table accepted in
    let w = within-least ts h timed least near in (
      edf_verdict ts h,
      e ∙ rw (reads, plain-passes table accepted plain, ← w),
      verdict-means ts h (posed ts (record { 0 = h }) timed w),
    )
