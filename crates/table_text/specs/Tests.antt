-- The tests by which a table value is found to be one that a text gives: those of the reader, on a table that is there already.
use Rattle.std.specs.Prelude.{ℕ, Bool, true, not, ◌&&◌, List, [], ◌∷◌, ◌++◌, drop, replicate, length, nat_le, nat_lt, ◌==◌}
use Rattle.cache.specs.declared.units.TheConstants.Ticks.{LONGEST}
use Rattle.std.specs.List.{list_all}
use Rattle.std.specs.Str.{bytes_eq}
use Rattle.texts.specs.Fields.{is_within}
use Rattle.table.specs.declared.tasks.Task.{Task}
use Rattle.table.specs.declared.tasks.head.Head.{Head}
use Rattle.table.specs.HeadLine.{head_in_range}
use Rattle.table.specs.TaskLine.{times_in_range, times_in_order}
use Rattle.table.specs.Names.{is_filled, knows}
use Rattle.table.specs.declared.accesses.Access.{Access}
use Rattle.cache.specs.declared.useful.Form.{Form}
use Rattle.cache.specs.declared.useful.Form.TheVariants.{Hex}
use Rattle.writing.specs.Marks.{marks_fit, useful_fits}
use Rattle.table_text.specs.TableText.{table_text}
use Rattle.table.specs.declared.Table.{Table}
use Rattle.table.specs.declared.TheConstants.Table.{LONGEST_TEXT, MOST_TASKS, MOST_ACCESSES}
use Rattle.table.specs.Tables.{tasks_of, accesses_of}

-- what line 1 says of a table
abbrev pub head_of : Table → Head
head_of table = record { sets = table.sets; brt = table.brt; form = table.form }

-- a task that a line can say in a table of this form with so many cache sets, below these tasks
unfoldable pub is_next : Form → ℕ → List Task → Task → Bool
is_next form sets above t =
    is_filled t.name
    && (times_in_range t && times_in_order t)
    && useful_fits form sets t.ucb
    && marks_fit sets t.ecb
    && not (knows t.name above)

-- each of these tasks is one, below those above it
unfoldable pub are_next : Form → ℕ → List Task → List Task → Bool
are_next form sets above [] = true
are_next form sets above (t ∷ ts) = is_next form sets above t && are_next form sets (above ++ (t ∷ [])) ts

-- an access that a line can say in a table of this form with so many cache sets, below so many tasks
unfoldable pub is_entered : Form → (sets count : ℕ) → Access → Bool
is_entered form sets count a = is_within 1 LONGEST a.lasts.0 && useful_fits form sets a.ucb && nat_lt a.task count && nat_le a.ceiling a.task

-- a place without a task, as the reader leaves it: zeros alone
unfoldable pub is_vacant : Task → Bool
is_vacant t =
    bytes_eq t.name.bytes (replicate 12 0)
    && t.work.0 == 0
    && t.period.0 == 0
    && t.deadline.0 == 0
    && t.jitter.0 == 0
    && useful_fits Hex 0 t.ucb
    && marks_fit 0 t.ecb

-- a place without an access: zeros alone
unfoldable pub is_unused : Access → Bool
is_unused a = a.task == 0 && a.ceiling == 0 && a.lasts.0 == 0 && useful_fits Hex 0 a.ucb

-- there are at most 32 tasks and 32 accesses, line 1 can say the head, there is a task, lines below can say the tasks and the accesses, and the other places are
-- empty
unfoldable pub has_lines : Table → Bool
has_lines table =
    nat_le table.count MOST_TASKS
    && nat_le table.access_count MOST_ACCESSES
    && head_in_range (head_of table)
    && nat_lt 0 table.count
    && are_next table.form table.sets [] (tasks_of table)
    && list_all (is_entered table.form table.sets table.count) (accesses_of table)
    && list_all is_vacant (drop table.count table.tasks)
    && list_all is_unused (drop table.access_count table.accesses)

-- and the text is no longer than one that is read
abbrev pub is_readable : Table → Bool
is_readable table = has_lines table && nat_le (length (table_text table)) LONGEST_TEXT
