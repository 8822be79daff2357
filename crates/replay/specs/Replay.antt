-- The replay, tick by tick and job by job: a machine that knows nothing of a demand. Each task releases a job of C ticks at tick 0 and then every period; each
-- tick runs one unit of the highest task that has work, its jobs in order of release; what is unfinished is kept.
-- A task's jobs are a list: the work left of each, in order of release. A job that has ended stays in it, with 0.
use Rattle.std.specs.Prelude.{ℕ, zero, suc, ◌%◌, ◌≤◌, ◌<◌, ◌≡◌, Bool, true, false, List, [], ◌∷◌, ◌++◌, length, replicate, sum, position, Option, Some, None, Result, Ok, Err, if◌then◌else◌, nat_lt, ◌==◌, slice_index_or}
use Rattle.cache.specs.declared.units.Ticks.{Ticks}
use Rattle.table.specs.declared.tasks.Task.{Task}
use Rattle.texts.specs.declared.refusals.Reason.TheVariants.{LongDeadline}
use Rattle.texts.specs.declared.refusals.Refusal.{Refusal}
use Rattle.texts.specs.Numbers.{untold}
use Rattle.table.specs.declared.Table.{Table}
use Rattle.table.specs.Tables.{tasks_of, at}
use Rattle.replay.specs.declared.TheConstants.{LONGEST_REPLAY}

-- where its period divides t, a task releases a job of C ticks, behind those that it has
abbrev pub with_job : ℕ → Task → List ℕ → List ℕ
with_job t task js = if t % task.period.0 == 0 then js ++ (task.work.0 ∷ []) else js

-- the start of tick t: each task releases its job
unfoldable pub release : ℕ → List Task → List (List ℕ) → List (List ℕ)
release t [] jss = []
release t (task ∷ tasks) [] = []
release t (task ∷ tasks) (js ∷ jss) = with_job t task js ∷ release t tasks jss

-- a task has work: some is left of its jobs
abbrev pub has_work : List ℕ → Bool
has_work js = nat_lt 0 (sum js)

-- one unit of the first job that has work left
unfoldable pub run_job : List ℕ → List ℕ
run_job [] = []
run_job (zero ∷ js) = zero ∷ run_job js
run_job (suc l ∷ js) = l ∷ js

-- the tick: the highest task that has work runs
unfoldable pub run_highest : List (List ℕ) → List (List ℕ)
run_highest [] = []
run_highest (js ∷ jss) = if has_work js then run_job js ∷ jss else js ∷ run_highest jss

-- the jobs of each task when t ticks are run
unfoldable pub jobs_after : List Task → ℕ → List (List ℕ)
jobs_after tasks zero = replicate (length tasks) []
jobs_after tasks (suc t) = run_highest (release t tasks (jobs_after tasks t))

-- the task that runs in tick t, by its position: the highest that has work then, if there is one
abbrev pub runs_at : List Task → ℕ → Option ℕ
runs_at tasks t = position has_work (release t tasks (jobs_after tasks t))

-- the first job is released, and has no work left
abbrev pub is_first_done : List ℕ → Bool
is_first_done [] = false
is_first_done (zero ∷ js) = true
is_first_done (suc l ∷ js) = false

-- the first job of the task at i has ended when t ticks are run
abbrev pub first_done_at : List Task → ℕ → ℕ → Bool
first_done_at tasks i t = is_first_done (slice_index_or (jobs_after tasks t) i [])

-- the first of the k counts of ticks from s on by which it has ended
unfoldable pub end_from : List Task → ℕ → ℕ → ℕ → Option Ticks
end_from tasks i s zero = None
end_from tasks i s (suc k) = elim (first_done_at tasks i s) [ true ↦ Some (record { 0 = s }) | false ↦ end_from tasks i (suc s) k ]

-- where the first job of the task at i ends, in a replay of `limit` ticks
unfoldable pub first_end : List Task → ℕ → ℕ → Option Ticks
first_end tasks i limit = end_from tasks i 0 (suc limit)

-- what an answer means: the first job has ended at e, and at no smaller count; or it has not when the limit is reached
unfoldable pub EndsFirst : List Task → ℕ → ℕ → Option Ticks → Type 0
EndsFirst tasks i limit (Some e) = (e.0 ≤ limit) × (first_done_at tasks i e.0 ≡ true) × ((s : ℕ) → s < e.0 → first_done_at tasks i s ≡ false)
EndsFirst tasks i limit None = first_done_at tasks i limit ≡ false

-- of a table, up to the deadline of the task at i; or the refusal of a deadline that is further than a replay goes
abbrev pub replayed : Table → ℕ → Result (Option Ticks) Refusal
replayed table i =
    if nat_lt LONGEST_REPLAY (at table i).deadline.0 then Err (untold LongDeadline)
    else Ok (first_end (tasks_of table) i (at table i).deadline.0)
