-- What the answers of the operations mean, in words of texts.
use Rattle.std.specs.Prelude.{ℕ, ◌≤◌, ◌<◌, ◌≡◌, List, Result, Ok, Option, Some, None}
use Rattle.cache.specs.declared.units.TheConstants.Ticks.{LONGEST}
use Rattle.cache.specs.declared.units.Ticks.{Ticks}
use Rattle.search.specs.declared.demand.Response.{Response}
use Rattle.search.specs.declared.demand.Response.TheVariants.{Within, Unschedulable}
use Rattle.texts.specs.declared.refusals.Refusal.{Refusal}
use Rattle.table.specs.declared.Table.{Table}
use Rattle.table.specs.Tables.{tasks_of, at}
use Rattle.table.specs.Reading.{read_text}
use Rattle.analysis.specs.Analysis.{response_of, numbered}
use Rattle.analysis.specs.Responses.{IsResponse}
use Rattle.growth.specs.Boundary.{IsGrowth}
use Rattle.edf.specs.declared.Verdict.{Verdict}
use Rattle.edf.specs.Charges.{charged_tasks}
use Rattle.edf.specs.Hyperperiod.{LeastCommon}
use Rattle.edf.specs.Verdicts.{IsVerdict}
use Rattle.replay.specs.declared.TheConstants.{LONGEST_REPLAY}
use Rattle.crpd.specs.Plain.{Plain}
use Rattle.replay.specs.Replay.{EndsFirst}

-- the text is accepted as this table
abbrev pub ReadsAs : List ℕ → Table → Type 0
ReadsAs text table = read_text text ≡ Ok table

-- of an accepted text, a method that there is and a position that has a task, the response of the task
abbrev pub IsTextResponse : List ℕ → ℕ → ℕ → Result Response Refusal → Type 0
IsTextResponse text m i r = (table : Table) → ReadsAs text table → m ≤ 5 → i < table.count → (a : Response) × (r ≡ Ok a) × IsResponse table (numbered m) i a

-- of an accepted text and a method that there is, the growth of its table
abbrev pub IsTextGrowth : List ℕ → ℕ → Result ℕ Refusal → Type 0
IsTextGrowth text m r = (table : Table) → ReadsAs text table → m ≤ 5 → (k : ℕ) × (r ≡ Ok k) × IsGrowth table (numbered m) k

-- of an accepted text without jitter and without accesses, and whose periods have a least common multiple of at most 250,000,000, the verdict: yes exactly if at
-- every whole time the demand bound is no larger than that time
abbrev pub IsTextVerdict : List ℕ → Result Verdict Refusal → Type 0
IsTextVerdict text r =
    (table : Table) → ReadsAs text table → Plain table → (h : ℕ) → LeastCommon (charged_tasks table) h → h ≤ LONGEST
    → (v : Verdict) × (r ≡ Ok v) × IsVerdict (charged_tasks table) v

-- an answer of the equation, as an end of the first job
abbrev pub end_by : Response → Option Ticks
end_by (Within R) = Some R
end_by Unschedulable = None

-- what a replay finds of a task: its first job has ended at e and not before, or is unfinished at its deadline; and e is the response under method 0
pub record IsReplayed (table : Table) (i : ℕ) (e : Option Ticks) : Type 0 where
  pub first : EndsFirst (tasks_of table) i (at table i).deadline.0 e
  pub response : e ≡ end_by (response_of table (numbered 0) i)

-- of an accepted text without jitter and accesses, a position that has a task, and a deadline that a replay reaches
abbrev pub IsTextReplay : List ℕ → ℕ → Result (Option Ticks) Refusal → Type 0
IsTextReplay text i r =
    (table : Table) → ReadsAs text table → Plain table → i < table.count → (at table i).deadline.0 ≤ LONGEST_REPLAY
    → (e : Option Ticks) × (r ≡ Ok e) × IsReplayed table i e
