-- A task more: what a table is with a task put in, and what a text is with its line put in.
use Rattle.std.specs.Prelude.{ℕ, suc, ◌+◌, ◌≤◌, ◌<◌, ◌≡◌, true, List, length, drop, map, if◌then◌else◌, nat_lt, Ok}
use Rattle.std.specs.List.{insert}
use Rattle.search.specs.declared.demand.Response.{Response}
use Rattle.search.specs.Least.{NoLater}
use Rattle.texts.specs.Cut.{lines}
use Rattle.table.specs.declared.tasks.Task.{Task}
use Rattle.table.specs.declared.accesses.Access.{Access}
use Rattle.table.specs.declared.Table.{Table}
use Rattle.table.specs.Tables.{tasks_of, accesses_of}
use Rattle.table.specs.Reading.{is_task_line}
use Rattle.crpd.specs.Operations.{answer_to}
use Rattle.crpd.specs.Meanings.{ReadsAs}
use Rattle.laws.specs.declared.any_text.TwoAnswers.{TwoAnswers}

-- where the task at k stands with another one put in at p: from p on one further down
abbrev pub place_after : ℕ → ℕ → ℕ
place_after p k = if nat_lt k p then k else k + 1

-- an access of the same task, with the same ceiling, where these stand then
abbrev pub moved_by : ℕ → Access → Access
moved_by p a = record a { task = place_after p a.task; ceiling = place_after p a.ceiling }

-- the second table is the first with this task put in at p: line 1 is the same, the tasks are those of the first and one more, and the accesses are the same, of the same
-- tasks. So none names the task that is new
pub record TaskAdded (p : ℕ) (task : Task) (first second : Table) : Type 0 where
  pub sets : first.sets ≡ second.sets
  pub brt : first.brt ≡ second.brt
  pub form : first.form ≡ second.form
  pub held : p ≤ first.count
  pub tasks : tasks_of second ≡ insert (tasks_of first) p task
  pub accesses : accesses_of second ≡ map (moved_by p) (accesses_of first)

-- and the places past its tasks and accesses are those of the first
pub record TaskPutIn (p : ℕ) (task : Task) (first second : Table) : Type 0 where
  pub added : TaskAdded p task first second
  pub count : second.count ≡ first.count + 1
  pub access-count : second.access_count ≡ first.access_count
  pub places : drop second.count second.tasks ≡ drop second.count first.tasks
  pub access-places : drop first.access_count second.accesses ≡ drop first.access_count first.accesses

-- the second text has the lines of the first and a task line more, below line 1 and p others
pub record LineAdded (p : ℕ) (first second : List ℕ) : Type 0 where
  pub line : List ℕ
  pub kind : is_task_line line ≡ true
  pub held : p < length (lines first)
  pub lines : lines second ≡ insert (lines first) (suc p) line

-- what the first text is answered for the task at i, and the second for the same task. Where both are accepted and the second has a task line more, each task is answered
-- no sooner with it, and those above it are answered the same
pub record NoSoonerWithMore (first second : List ℕ) (p m i : ℕ) (r : TwoAnswers) : Type 0 where
  pub first_is : r.first ≡ answer_to first m i
  pub second_is : r.second ≡ answer_to second m (place_after p i)
  pub no_sooner : (a b : Table) → ReadsAs first a → ReadsAs second b → LineAdded p first second
      → (R : Response) → r.first ≡ Ok R → (S : Response) × (r.second ≡ Ok S) × NoLater R S
  pub above : (a b : Table) → ReadsAs first a → ReadsAs second b → LineAdded p first second → i < p → r.first ≡ r.second
