-- The system of a table: its tasks and the accesses of its lines, on one processor with a cache of its sets and ways. Its runs are those of specs/model of `runs`.
use Rattle.std.specs.Prelude.{ℕ}
use Rattle.cache.specs.Levels.{counts}
use Rattle.table.specs.declared.Table.{Table}
use Rattle.table.specs.Tables.{ways_in, at, access_at}
use Rattle.analysis.specs.declared.costs.Single.TheVariants.{None as NoReloads, EcbOnly, UcbOnly, UcbUnion, EcbUnion}
use Rattle.analysis.specs.declared.Method.{Method}
use Rattle.analysis.specs.declared.Method.TheVariants.{Of, Combined}
use Rattle.analysis.specs.Costs.{ucb_of, ecb_of}
use Rattle.runs.specs.model.Jobs.{Task}
use Rattle.runs.specs.model.Accesses.{Access}
use Rattle.runs.specs.model.Legal.{System}

-- what the table promises of its task at k
abbrev pub promised_task : Table → ℕ → Task
promised_task table k = record {
  period = (at table k).period.0;
  jitter = (at table k).jitter.0;
  cost = (at table k).work.0;
  deadline = (at table k).deadline.0;
  useful = ucb_of table k;
  evicting = ecb_of table k;
}

-- and of the access of a line, counted from 0
abbrev pub promised_access : Table → ℕ → Access
promised_access table q = record {
  task = (access_at table q).task;
  ceiling = (access_at table q).ceiling;
  length = (access_at table q).lasts.0;
  useful = counts (ways_in table) (access_at table q).ucb;
}

-- where a reload takes so long
abbrev pub system_of : Table → ℕ → System
system_of table brt = record {
  tasks = promised_task table;
  size = table.count;
  accesses = promised_access table;
  many = table.access_count;
  sets = table.sets;
  ways = ways_in table;
  brt = brt;
}

-- how long a reload takes on the processors that a method is for: method 0 charges none, and is for those without a cache, or with one that does not count
abbrev pub reload_time : Method → Table → ℕ
reload_time (Of NoReloads) table = 0
reload_time (Of EcbOnly) table = table.brt.0
reload_time (Of UcbOnly) table = table.brt.0
reload_time (Of UcbUnion) table = table.brt.0
reload_time (Of EcbUnion) table = table.brt.0
reload_time Combined table = table.brt.0
