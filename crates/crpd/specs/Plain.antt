-- Plain tables, of which no task has a jitter above 0, and that have no access; and the refusals of others.
use Rattle.std.specs.Prelude.{ℕ, ◌+◌, ◌≡◌, ◌<◌, Option, Some, None, Result, Ok, Err, position, option_map, if◌then◌else◌, nat_lt, ⊤}
use Rattle.texts.specs.declared.refusals.Fault.{Fault}
use Rattle.texts.specs.declared.refusals.Reason.TheVariants.{HasJitter, HasAccess}
use Rattle.texts.specs.declared.refusals.Refusal.{Refusal}
use Rattle.texts.specs.Faults.{at_field, on_line}
use Rattle.table.specs.declared.Table.{Table}
use Rattle.table.specs.Tables.{tasks_of, at}
use Rattle.table.specs.Reading.{◌>>=◌}

-- the number of the first task line with a jitter above 0. Line 1 stands above the task lines, and no other line among them
abbrev pub first_jitter : Table → Option ℕ
first_jitter table = option_map (λ k. k + 2) (position (λ task. nat_lt 0 task.jitter.0) (tasks_of table))

-- that of the first access line. All task lines stand above it
abbrev pub first_access : Table → Option ℕ
first_access table = if nat_lt 0 table.access_count then Some (table.count + 2) else None

-- the refusal that tells a line, if there is one
abbrev pub unless_line : Fault → Option ℕ → Result ⊤ Refusal
unless_line fault None = Ok tt
unless_line fault (Some line) = Err (on_line line fault)

-- the refusal of a table that is not plain
unfoldable pub plain_checked : Table → Result ⊤ Refusal
plain_checked table = do
  _ ← unless_line (at_field 5 HasJitter) (first_jitter table)
  unless_line (at_field 0 HasAccess) (first_access table)

-- what a plain table is
pub record Plain (table : Table) : Type 0 where
  pub jitter : (k : ℕ) → k < table.count → (at table k).jitter.0 ≡ 0
  pub access : table.access_count ≡ 0
