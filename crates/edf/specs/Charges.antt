-- What a task is charged under earliest deadline first.
use Rattle.std.specs.Prelude.{ℕ, ◌+◌, ◌-◌, ◌*◌, List, map, sum_by, if◌then◌else◌, nat_lt}
use Rattle.cache.specs.Counts.{◌on◌, total}
use Rattle.cache.specs.Levels.{counts}
use Rattle.cache.specs.Words.{members}
use Rattle.search.specs.Positions.{hp}
use Rattle.search.specs.Demand.{ceil}
use Rattle.table.specs.declared.tasks.Task.{Task}
use Rattle.table.specs.declared.Table.{Table}
use Rattle.table.specs.Tables.{ways_in, tasks_of, at}
use Rattle.edf.specs.declared.charges.ChargedTask.{ChargedTask}

-- for each t' with a smaller deadline, BRT times the size of UCB of t ∩ ECB of t' times ⌈(D of t − D of t') / T of t'⌉
unfoldable pub edf_charge : Table → Task → Task → ℕ
edf_charge table t t' =
    if nat_lt t'.deadline.0 t.deadline.0
    then table.brt.0 * total (counts (ways_in table) t.ucb on members t'.ecb) * ceil (t.deadline.0 - t'.deadline.0) t'.period.0
    else 0

-- the charged time: C, and what is charged for each task of the table
unfoldable pub charged_time : Table → Task → ℕ
charged_time table t = t.work.0 + sum_by (edf_charge table t) (tasks_of table)

abbrev pub charged_task : Table → Task → ChargedTask
charged_task table t = record { time = record { 0 = charged_time table t }; deadline = t.deadline; period = t.period }

-- the task at a position, charged
abbrev pub charged_at : Table → ℕ → ChargedTask
charged_at table k = charged_task table (at table k)

-- all of them
abbrev pub charged_tasks : Table → List ChargedTask
charged_tasks table = map (charged_at table) (hp table.count)

-- what stands in a place without a task
abbrev pub no_charged_task : ChargedTask
no_charged_task = record { time = record { 0 = 0 }; deadline = record { 0 = 0 }; period = record { 0 = 0 } }
