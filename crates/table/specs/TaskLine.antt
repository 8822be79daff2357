-- What a task line says, field by field, and its refusals, each with its condition, in the order in which they are tried.
use Rattle.std.specs.Prelude.{ℕ, List, [], ◌∷◌, Bool, ◌≡◌, true, not, ◌&&◌, is_some, unwrap_or, nat_le, nat_lt, ◌==◌}
use Rattle.cache.specs.declared.units.TheConstants.Ticks.{LONGEST}
use Rattle.texts.specs.Cut.{field, field_count}
use Rattle.texts.specs.Fields.{number, is_within}
use Rattle.cache.specs.declared.useful.Form.{Form}
use Rattle.cache.specs.Field.{read_set}
use Rattle.cache.specs.UsefulField.{read_useful, within_ways}
use Rattle.texts.specs.declared.refusals.Reason.TheVariants.{Shape, Marks, TooManyBlocks, KnownName}
use Rattle.texts.specs.Faults.{at_field}
use Rattle.texts.specs.Rows.{Conditions, no_name, no_number, out_of_range, out_of_order}
use Rattle.table.specs.declared.tasks.Task.{Task}
use Rattle.table.specs.declared.tasks.line.TaskFields.{TaskFields}
use Rattle.table.specs.Names.{knows}
use Rattle.cache.specs.declared.units.Ticks.{Ticks}
use Rattle.table.specs.Tasks.{pack_name, no_sets, no_blocks}

-- these are the fields of a task line, which has nine, behind the first
pub record AreTaskFields (line : List ℕ) (f : TaskFields) : Type 0 where
  pub nine : (field_count line == 9) ≡ true
  pub name : f.name.now ≡ field 1 line
  pub work : f.work.now ≡ field 2 line
  pub period : f.period.now ≡ field 3 line
  pub deadline : f.deadline.now ≡ field 4 line
  pub jitter : f.jitter.now ≡ field 5 line
  pub blocking : f.blocking.now ≡ field 6 line
  pub ucb : f.ucb.now ≡ field 7 line
  pub ecb : f.ecb.now ≡ field 8 line

-- the ranges of a task's times: J may be 0
unfoldable pub times_in_range : Task → Bool
times_in_range t =
    is_within 1 LONGEST t.work.0
    && is_within 1 LONGEST t.period.0
    && is_within 1 LONGEST t.deadline.0
    && is_within 0 LONGEST t.jitter.0

-- J ≤ D ≤ T
unfoldable pub times_in_order : Task → Bool
times_in_order t = nat_le t.jitter.0 t.deadline.0 && nat_le t.deadline.0 t.period.0

-- B of a task line, which says nothing of the task
abbrev pub blocking_said : List ℕ → Ticks
blocking_said line = record { 0 = number (field 6 line) }

abbrev pub has_blocking : List ℕ → Bool
has_blocking line = nat_lt 0 (blocking_said line).0

-- what a task line says: after `T` the name, then C, T, D and J, the useful blocks and the evicting sets (none where a field says none)
unfoldable pub task_said : Form → ℕ → List ℕ → Task
task_said form sets line = record {
  name = pack_name (field 1 line);
  work = record { 0 = number (field 2 line) };
  period = record { 0 = number (field 3 line) };
  deadline = record { 0 = number (field 4 line) };
  jitter = record { 0 = number (field 5 line) };
  ucb = unwrap_or (read_useful form sets (field 7 line)) no_blocks;
  ecb = unwrap_or (read_set sets (field 8 line)) no_sets;
}

-- a line whose first field is `T`, below these tasks: each condition is looked for in every field before the next one is
unfoldable pub task_rows : Form → ℕ → List Task → List ℕ → Conditions
task_rows form sets above line =
    (not (field_count line == 9), at_field 9 Shape)
    ∷ no_name 1 line
    ∷ no_number 2 line
    ∷ no_number 3 line
    ∷ no_number 4 line
    ∷ no_number 5 line
    ∷ no_number 6 line
    ∷ out_of_range 1 LONGEST 2 line
    ∷ out_of_range 1 LONGEST 3 line
    ∷ out_of_range 1 LONGEST 4 line
    ∷ out_of_range 0 LONGEST 5 line
    ∷ out_of_range 0 LONGEST 6 line
    ∷ (not (is_some (read_useful form sets (field 7 line))), at_field 7 Marks)
    ∷ (not (is_some (read_set sets (field 8 line))), at_field 8 Marks)
    ∷ (not (within_ways form (field 7 line)), at_field 7 TooManyBlocks)
    ∷ out_of_order 4 3 line
    ∷ out_of_order 5 4 line
    ∷ (knows (pack_name (field 1 line)) above, at_field 1 KnownName)
    ∷ []
