-- What the writer of an explanation promises, and what its parts are handed.
use Rattle.std.specs.Prelude.{ℕ, ◌+◌, ◌*◌, ◌≤◌, ◌<◌, ◌≡◌, List, length, Result}
use Rattle.cache.specs.declared.units.Ticks.{Ticks}
use Rattle.cache.specs.declared.units.TheConstants.Ticks.{LONGEST}
use Rattle.search.specs.declared.demand.Response.TheVariants.{Within}
use Rattle.search.specs.Positions.{hp, fold_by}
use Rattle.search.specs.Least.{AnswerInRange}
use Rattle.table.specs.declared.tasks.Task.{Task}
use Rattle.table.specs.declared.accesses.Access.{Access}
use Rattle.table.specs.declared.Table.{Table}
use Rattle.table.specs.Tables.{at}
use Rattle.analysis.specs.declared.costs.Single.{Single}
use Rattle.analysis.specs.Costs.{reloads_in, charge_under}
use Rattle.analysis.specs.declared.costs.Charge.{Charge}
use Rattle.analysis.specs.declared.costs.Charge.TheVariants.{Victim, NoVictim}
use Rattle.table.specs.Accepted.{AcceptedTable}
use Rattle.analysis.specs.declared.Method.{Method}
use Rattle.analysis.specs.Analysis.{MayBlock, response_of}
use Rattle.analysis.specs.Needs.{need_of}
use Rattle.analysis.specs.declared.need.Need.{Need}
use Rattle.texts.specs.declared.refusals.Refusal.{Refusal}
use Rattle.writing.specs.Delivery.{DeliversText}
use Rattle.report.specs.Explanation.{activations_in, explanation_of}
use Rattle.report.specs.declared.explanation.TheConstants.{LONGEST_EXPLANATION}

-- what the line of the task at j adds while an access blocks i: its activations in r ticks, each with its work and the time of the reloads that it is charged
abbrev pub adds_at : Table → Access → Single → ℕ → ℕ → ℕ → ℕ
adds_at table a m i r j = activations_in r (at table j) * ((at table j).work.0 + table.brt.0 * reloads_in (charge_under table a m i j))

-- C of the task at i, how long it is blocked, and what the lines of the tasks above it add
abbrev pub sum_of : Table → Need → ℕ → ℕ → ℕ
sum_of table need i r = fold_by ◌+◌ ((at table i).work.0 + need.blocker.lasts.0) (adds_at table need.blocker need.method i r) (hp i)

-- the figures that the explanation of what method m answers for the task at i shows add up: where what is needed is not beyond, this sum is it; and where there is a
-- response, it is what is needed
pub record AddsUp (table : Table) (m : Method) (i : ℕ) : Type 0 where
  pub sum : (R : Ticks) → (need_of table m i).time ≡ Within R → sum_of table (need_of table m i) i R.0 ≡ R.0
  pub response : (R : Ticks) → response_of table m i ≡ Within R → (need_of table m i).time ≡ Within R

-- the explanation is delivered, and it is never longer than that
pub record DeliversExplanation (table : Table) (m : Method) (i : ℕ) (before : List ℕ) (written : Result ℕ Refusal) (after : List ℕ) : Type 0 where
  pub delivered : DeliversText (explanation_of table m i) before written after
  pub short : length (explanation_of table m i) ≤ LONGEST_EXPLANATION

-- a need of a task: what is needed is in range, and so is for how long the task is blocked
pub record NeedInRange (need : Need) : Type 0 where
  pub time : AnswerInRange need.time
  pub lasts : need.blocker.lasts.0 ≤ LONGEST

-- a task's times are no longer than the longest deadline, and it has a period
pub record TaskInRange (t : Task) : Type 0 where
  pub work : t.work.0 ≤ LONGEST
  pub period : 1 ≤ t.period.0
  pub period-most : t.period.0 ≤ LONGEST
  pub deadline : t.deadline.0 ≤ t.period.0
  pub jitter : t.jitter.0 ≤ t.deadline.0

-- the task that a charge hits, if it hits a single one, is one of so many
abbrev pub VictimBelow : ℕ → Charge → Type 0
VictimBelow count (Victim h) = h.victim < count
VictimBelow count (NoVictim n) = Unit {0}

-- what blocks the task at i in an explanation: an access that may, of a task of the table
pub record IsBlocker (table : Table) (i : ℕ) (a : Access) : Type 0 where
  pub blocks : MayBlock a i
  pub task : a.task < table.count

-- what the reasons are taken from: an accepted table, a task's position, and what blocks it
pub record Explainable (table : Table) (need : Need) (i : ℕ) : Type 0 where
  pub accepted : AcceptedTable table
  pub held : i < table.count
  pub blocker : IsBlocker table i need.blocker
