-- Worked figures, in one table: antt runs the replay.
use Rattle.std.proofs.Common.{◌≡◌, ℕ, [], ◌∷◌, Option, Some, None, refl}
use Rattle.cache.specs.declared.units.Ticks.{Ticks}
use Rattle.table.specs.declared.tasks.Task.{Task}
use Rattle.table.specs.Tasks.{empty_task}
use Rattle.replay.specs.Replay.{release, run_job, run_highest, jobs_after, runs_at, end_from, first_end}

abbrev asking : ℕ → ℕ → Task
asking C T = record empty_task { work = record { 0 = C }; period = record { 0 = T } }

abbrev ends : ℕ → Option Ticks
ends e = Some (record { 0 = e })

-- table P: a has C 2, T 5, and b has C 3, T 8. Then b with D 4; below b a task c with C 1, T 9; b below a task that takes all there is
pub figures :
    (first_end (asking 2 5 ∷ asking 3 8 ∷ []) 0 5
    ∷ first_end (asking 2 5 ∷ asking 3 8 ∷ []) 1 8
    ∷ first_end (asking 2 5 ∷ asking 3 8 ∷ []) 1 4
    ∷ first_end (asking 2 5 ∷ asking 3 8 ∷ asking 1 9 ∷ []) 2 9
    ∷ first_end (asking 7 5 ∷ asking 3 8 ∷ []) 1 8
    ∷ [])
    ≡ (ends 2 ∷ ends 5 ∷ None ∷ ends 8 ∷ None ∷ [])
unfolding first_end end_from jobs_after run_highest run_job release
figures = refl

-- the first ten ticks of table P: the jobs of a and of b when they are run, and who runs at 0, 2, 5 and 7, and at 9
pub ten : jobs_after (asking 2 5 ∷ asking 3 8 ∷ []) 10 ≡ ((0 ∷ 0 ∷ []) ∷ (0 ∷ 1 ∷ []) ∷ [])
unfolding jobs_after run_highest run_job release
ten = refl

pub who-runs : (runs_at (asking 2 5 ∷ asking 3 8 ∷ []) 0 ∷ runs_at (asking 2 5 ∷ asking 3 8 ∷ []) 2 ∷ runs_at (asking 2 5 ∷ asking 3 8 ∷ []) 5 ∷ runs_at (asking 2 5 ∷ asking 3 8 ∷ []) 7 ∷ runs_at (asking 2 5 ∷ asking 3 8 ∷ []) 9 ∷ [])
    ≡ (Some 0 ∷ Some 1 ∷ Some 0 ∷ None ∷ Some 1 ∷ [])
unfolding jobs_after run_highest run_job release
who-runs = refl
