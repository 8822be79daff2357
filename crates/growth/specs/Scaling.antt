-- A table whose execution times are scaled by k thousandths: each C becomes ⌈C × k / 1000⌉, and all else stays, the lengths of accesses as well.
use Rattle.std.specs.Prelude.{ℕ, ◌*◌, ◌≤◌, ◌<◌, ◌≡◌, map, length}
use Rattle.cache.specs.declared.units.TheConstants.Ticks.{LONGEST}
use Rattle.std.specs.List.{All}
use Rattle.search.specs.Demand.{ceil}
use Rattle.table.specs.declared.tasks.Task.{Task}
use Rattle.table.specs.declared.Table.{Table}
use Rattle.table.specs.Tables.{at}
use Rattle.table.specs.declared.TheConstants.Table.{MOST_TASKS}
use Rattle.growth.specs.declared.scaling.TheConstants.{WHOLE, MOST}

-- ⌈C × k / 1000⌉
abbrev pub scaled_work : ℕ → ℕ → ℕ
scaled_work k c = ceil (c * k) WHOLE

-- a task with its C scaled
abbrev pub scaled_task : ℕ → Task → Task
scaled_task k t = record t { work = record { 0 = scaled_work k t.work.0 } }

-- a table with the C of every task scaled
unfoldable pub scaled_by : ℕ → Table → Table
scaled_by k table = record table { tasks = map (scaled_task k) table.tasks }

-- by k no C of the table is scaled beyond the longest
abbrev pub FitsBy : ℕ → Table → Type 0
FitsBy k table = (j : ℕ) → j < table.count → scaled_work k (at table j).work.0 ≤ LONGEST

-- what may be scaled, by up to 4,000 thousandths: of its 32 places none has a C above the longest
pub record Scalable (k : ℕ) (table : Table) : Type 0 where
  pub most : k ≤ MOST
  pub long : length table.tasks ≡ MOST_TASKS
  pub works : All (λ t. t.work.0 ≤ LONGEST) table.tasks
