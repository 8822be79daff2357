-- The tasks of a table, and its accesses.
use Rattle.std.specs.Prelude.{ℕ, ◌+◌, List, take, set, replicate, slice_index_or}
use Rattle.table.specs.declared.TheConstants.Table.{MOST_TASKS, MOST_ACCESSES}
use Rattle.table.specs.declared.tasks.Task.{Task}
use Rattle.table.specs.declared.tasks.head.Head.{Head}
use Rattle.cache.specs.declared.useful.Form.TheVariants.{Hex}
use Rattle.cache.specs.UsefulField.{ways_of}
use Rattle.table.specs.Tasks.{blank, empty_task}
use Rattle.table.specs.declared.accesses.Access.{Access}
use Rattle.table.specs.Accesses.{blank_access, empty_access}
use Rattle.table.specs.declared.Table.{Table}

-- how many ways a cache set of it has
abbrev pub ways_in : Table → ℕ
ways_in table = ways_of table.form

-- the tasks that are there, the highest priority first
abbrev pub tasks_of : Table → List Task
tasks_of table = take table.count table.tasks

-- the task at a position
unfoldable pub at : Table → ℕ → Task
at table k = slice_index_or (tasks_of table) k blank

-- the accesses that are there, in the order of their lines
abbrev pub accesses_of : Table → List Access
accesses_of table = take table.access_count table.accesses

-- the access of a line, counted from 0
unfoldable pub access_at : Table → ℕ → Access
access_at table n = slice_index_or (accesses_of table) n blank_access

-- a table of no task yet, and of no access: what a place holds that has none is given too
abbrev pub new_table : Head → Table
new_table head = record {
  sets = head.sets;
  brt = head.brt;
  form = head.form;
  count = 0;
  tasks = replicate MOST_TASKS empty_task;
  access_count = 0;
  accesses = replicate MOST_ACCESSES empty_access;
}

-- the table into which a text is read
abbrev pub empty_table : Table
empty_table = new_table (record { sets = 0; brt = record { 0 = 0 }; form = Hex })

-- the table with a task more, below the others
abbrev pub with_task : Table → Task → Table
with_task table t = record table { count = table.count + 1; tasks = set table.tasks table.count t }

-- the table with an access more, after the others
abbrev pub with_access : Table → Access → Table
with_access table a = record table { access_count = table.access_count + 1; accesses = set table.accesses table.access_count a }
