-- What an access line says, field by field, and its refusals, each with its condition, in the order in which they are tried.
use Rattle.std.specs.Prelude.{ℕ, List, [], ◌∷◌, ◌≡◌, true, not, length, is_some, unwrap_or, nat_le, nat_lt, ◌==◌}
use Rattle.cache.specs.declared.units.TheConstants.Ticks.{LONGEST}
use Rattle.std.specs.List.{position_or_len}
use Rattle.texts.specs.Cut.{field, field_count}
use Rattle.texts.specs.Fields.{number}
use Rattle.cache.specs.declared.useful.Form.{Form}
use Rattle.cache.specs.UsefulField.{read_useful, within_ways}
use Rattle.texts.specs.declared.refusals.Reason.TheVariants.{Shape, Marks, TooManyBlocks, OtherTask}
use Rattle.texts.specs.Faults.{at_field}
use Rattle.texts.specs.Rows.{Conditions, no_name, no_number, out_of_range}
use Rattle.table.specs.declared.tasks.Task.{Task}
use Rattle.table.specs.Names.{has_name}
use Rattle.table.specs.Tasks.{pack_name, no_blocks}
use Rattle.table.specs.declared.accesses.Access.{Access}
use Rattle.table.specs.declared.accesses.line.AccessFields.{AccessFields}

-- these are the fields of an access line, which has five, behind the first
pub record AreAccessFields (line : List ℕ) (f : AccessFields) : Type 0 where
  pub five : (field_count line == 5) ≡ true
  pub task : f.task.now ≡ field 1 line
  pub ceiling : f.ceiling.now ≡ field 2 line
  pub lasts : f.lasts.now ≡ field 3 line
  pub ucb : f.ucb.now ≡ field 4 line

-- the first position that has the name, and the number of tasks where none has
abbrev pub position_named : List Task → List ℕ → ℕ
position_named tasks name = position_or_len (has_name (pack_name name)) tasks

-- what an access line says below these tasks: after `A` the names of the task and of its ceiling, the length and the UCB
unfoldable pub access_said : Form → ℕ → List Task → List ℕ → Access
access_said form sets tasks line = record {
  task = position_named tasks (field 1 line);
  ceiling = position_named tasks (field 2 line);
  lasts = record { 0 = number (field 3 line) };
  ucb = unwrap_or (read_useful form sets (field 4 line)) no_blocks;
}

-- a line whose first field is `A`, below these tasks: both of its names are those of tasks, and the ceiling is the task or above it. A ceiling that no task has would be below all
unfoldable pub access_rows : Form → ℕ → List Task → List ℕ → Conditions
access_rows form sets tasks line =
    let task = position_named tasks (field 1 line) in
    let ceiling = position_named tasks (field 2 line) in
    (not (field_count line == 5), at_field 5 Shape)
    ∷ no_name 1 line
    ∷ no_name 2 line
    ∷ no_number 3 line
    ∷ out_of_range 1 LONGEST 3 line
    ∷ (not (is_some (read_useful form sets (field 4 line))), at_field 4 Marks)
    ∷ (not (within_ways form (field 4 line)), at_field 4 TooManyBlocks)
    ∷ (not (nat_lt task (length tasks)), at_field 1 OtherTask)
    ∷ (not (nat_le ceiling task), at_field 2 OtherTask)
    ∷ []
