-- The number of a text's refusal is at most 18: the reasons beyond are those of calls.
use Rattle.std.proofs.Common.{ℕ, ◌+◌, ◌≤◌, Bool, true, false, cond, List, [], ◌∷◌, arith, Option, Some, None, Result, Ok, Err}
use Rattle.std.specs.Prelude.{◌==◌}
use Rattle.texts.specs.Cut.{lines}
use Rattle.texts.specs.declared.refusals.Reason.TheVariants.{Shape, NoTask}
use Rattle.texts.specs.declared.refusals.Refusal.{Refusal}
use Rattle.texts.specs.Numbers.{reason_number}
use Rattle.texts.specs.Faults.{at_field, no_field}
use Rattle.texts.specs.Rows.{Conditions, unless_fault}
use Rattle.cache.specs.declared.useful.Form.{Form}
use Rattle.table.specs.declared.tasks.Task.{Task}
use Rattle.table.specs.HeadLine.{head_rows, head_said}
use Rattle.table.specs.TaskLine.{task_rows}
use Rattle.table.specs.AccessLine.{access_rows}
use Rattle.table.specs.declared.Table.{Table}
use Rattle.table.specs.Tables.{tasks_of, new_table}
use Rattle.table.specs.Reading.{told, then_read, text_rows, is_task_line, is_access_line, task_line_rows, access_line_rows, line_rows, with_line, ended, first_blocked, unless_blocked, read_from, read_below, read_lines, read_text}

-- a refusal, if it is one, has such a number
abbrev pub NumberedLow : {X : Type 0} → Result X Refusal → Type 0
NumberedLow (Ok x) = Unit {0}
NumberedLow (Err r) = reason_number r.reason ≤ 18

-- so have the reasons of all conditions
abbrev LowRows : Conditions → Type 0
LowRows [] = Unit {0}
LowRows (r ∷ rows) = (reason_number r.1.reason ≤ 18) × LowRows rows

-- then what is told of them has
rows-low : {X Y : Type 0} (line : ℕ) (rows : Conditions) (x : X) (next : X → Result Y Refusal) → LowRows rows → NumberedLow (next x)
    → NumberedLow (then_read (told line (unless_fault rows x)) next)
unfolding unless_fault
rows-low line [] x next low p = p
rows-low line (r ∷ rows) x next low p = go r.0 (rows-low line rows x next low.1 p)
  where
    go : (t : Bool) → NumberedLow (then_read (told line (unless_fault rows x)) next) → NumberedLow (then_read (told line (cond t (Err r.1) (unless_fault rows x))) next)
    go true rest = low.0
    go false rest = rest

task-low : (form : Form) (sets : ℕ) (above : List Task) (l : List ℕ) → LowRows (task_rows form sets above l)
unfolding task_rows
task-low form sets above l =
    (omega arith, (omega arith, (omega arith, (omega arith, (omega arith, (omega arith, (omega arith, (omega arith, (omega arith, (omega arith, (omega arith, (omega arith, (omega arith, (omega arith, (omega arith, (omega arith, (omega arith, (omega arith, tt))))))))))))))))))

access-low : (form : Form) (sets : ℕ) (tasks : List Task) (l : List ℕ) → LowRows (access_rows form sets tasks l)
unfolding access_rows
access-low form sets tasks l = (omega arith, (omega arith, (omega arith, (omega arith, (omega arith, (omega arith, (omega arith, (omega arith, (omega arith, tt)))))))))

line-low : (table : Table) (l : List ℕ) → LowRows (line_rows table l)
line-low table l = go (is_task_line l) (is_access_line l)
  where
    go : (s t : Bool) → LowRows (cond s (task_line_rows table l) (cond t (access_line_rows table l) ((true, at_field 0 Shape) ∷ [])))
    go true t = (omega arith, (omega arith, task-low table.form table.sets (tasks_of table) l))
    go false true = (omega arith, access-low table.form table.sets (tasks_of table) l)
    go false false = (omega arith, tt)

from-low : (ls : List (List ℕ)) (line : ℕ) (table : Table) → NumberedLow (read_from line table ls)
unfolding read_from ended unless_fault
from-low [] line table = go (table.count == 0)
  where
    go : (t : Bool) → NumberedLow (told 1 (cond t (Err (no_field NoTask)) (Ok table)))
    go true = omega arith
    go false = tt
from-low (l ∷ ls) line table =
    rows-low line (line_rows table l) (with_line table l) (λ t. read_from (line + 1) t ls) (line-low table l) (from-low ls (line + 1) (with_line table l))

below-low : (first : Option ℕ) (r : Result Table Refusal) → NumberedLow r → NumberedLow (then_read r (unless_blocked first))
unfolding unless_blocked
below-low None (Ok table) low = tt
below-low (Some line) (Ok table) low = omega arith
below-low first (Err refusal) low = low

lines-low : (ls : List (List ℕ)) → NumberedLow (read_lines ls)
unfolding read_lines
lines-low [] = omega arith
lines-low (l ∷ ls) =
    rows-low 1 (head_rows l) (head_said l) (λ head. read_below (new_table head) ls) (omega arith, (omega arith, (omega arith, (omega arith, (omega arith, (omega arith, (omega arith, (omega arith, tt))))))))
    (below-low (first_blocked 2 ls) _ (from-low ls 2 (new_table (head_said l))))

pub text-low : (text : List ℕ) → NumberedLow (read_text text)
unfolding read_text
text-low text = rows-low 0 (text_rows text) text (λ t. read_lines (lines t)) (omega arith, (omega arith, tt)) (lines-low (lines text))
