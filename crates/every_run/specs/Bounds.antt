-- What it means that an answer bounds every job of every run.
use Rattle.std.specs.Prelude.{ℕ}
use Rattle.table.specs.declared.Table.{Table}
use Rattle.analysis.specs.declared.Method.{Method}
use Rattle.runs.specs.model.Jobs.{Run}
use Rattle.runs.specs.model.Legal.{Legal}
use Rattle.runs.specs.Theorem.{EveryJobEnds}
use Rattle.every_run.specs.TableRuns.{system_of, reload_time}

-- in every run of the table, on the processors that the method is for, each job of the task at i is complete R ticks after its release, and by its deadline
abbrev pub BoundsRuns : Table → Method → ℕ → ℕ → Type 0
BoundsRuns table m i R = let s = system_of table (reload_time m table) in (z : Run) → Legal s z → EveryJobEnds s z i R
