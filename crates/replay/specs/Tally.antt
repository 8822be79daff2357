-- What the code keeps of a task's jobs: the work left of all of them, and the ticks that the task has been given.
use Rattle.std.specs.Prelude.{ℕ, zero, suc, ◌+◌, ◌%◌, ◌≤◌, ◌<◌, ◌≡◌, Bool, List, [], ◌∷◌, length, take, replicate, All, if◌then◌else◌, nat_lt, ◌==◌, slice_index_or}
use Rattle.cache.specs.declared.units.TheConstants.Ticks.{LONGEST}
use Rattle.table.specs.declared.tasks.Task.{Task}
use Rattle.table.specs.Tasks.{blank}
use Rattle.replay.specs.declared.Work.{Work}
use Rattle.replay.specs.declared.TheConstants.{LONGEST_REPLAY}

-- the ranges of a task
pub record Runnable (task : Task) : Type 0 where
  pub period : 1 ≤ task.period.0
  pub some : 1 ≤ task.work.0
  pub most : task.work.0 ≤ LONGEST

-- the work that a task releases at the start of tick t
abbrev pub due : ℕ → Task → ℕ
due t task = if t % task.period.0 == 0 then task.work.0 else 0

-- a task that has no work, and has been given no tick
abbrev pub idle : Work
idle = record { left = 0; done = 0 }

-- a task with what it releases at the start of tick t
abbrev pub with_due : ℕ → Task → Work → Work
with_due t task w = record { left = w.left + due t task; done = w.done }

-- the start of tick t
unfoldable pub add_due : ℕ → List Task → List Work → List Work
add_due t [] ws = []
add_due t (task ∷ tasks) [] = []
add_due t (task ∷ tasks) (w ∷ ws) = with_due t task w ∷ add_due t tasks ws

-- a task that has work
abbrev pub is_busy : Work → Bool
is_busy w = nat_lt 0 w.left

-- the tick
unfoldable pub give : List Work → List Work
give [] = []
give (w ∷ ws) = elim w.left [ zero ↦ w ∷ give ws | suc l ↦ record { left = l; done = w.done + 1 } ∷ ws ]

unfoldable pub tally : List Task → ℕ → List Work
tally tasks zero = replicate (length tasks) idle
tally tasks (suc t) = give (add_due t tasks (tally tasks t))

-- the ticks that the task at i has been given when t ticks are run
abbrev pub done_at : List Task → ℕ → ℕ → ℕ
done_at tasks i t = (slice_index_or (tally tasks t) i idle).done

-- the C of the task at i
abbrev pub work_at : List Task → ℕ → ℕ
work_at tasks i = (slice_index_or tasks i blank).work.0

-- what each task has left and done is at most b ticks
abbrev pub Most : ℕ → List Work → Type 0
Most b ws = (j : ℕ) → (slice_index_or ws j idle).left + (slice_index_or ws j idle).done ≤ b

-- what a tick of the code is handed: the tally of t ticks
pub record Ticking (tasks : List Task) (works : List Work) (t : ℕ) : Type 0 where
  pub few : length tasks ≤ 32
  pub runnable : All Runnable tasks
  pub near : t ≤ LONGEST_REPLAY
  pub tallied : take (length tasks) works ≡ tally tasks t

-- what a replay of the first job of the task at i is handed
pub record Replayable (tasks : List Task) (i limit : ℕ) : Type 0 where
  pub few : length tasks ≤ 32
  pub runnable : All Runnable tasks
  pub there : i < length tasks
  pub near : limit ≤ LONGEST_REPLAY
