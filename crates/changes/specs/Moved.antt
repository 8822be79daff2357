-- What moved between two tables.
use Rattle.std.specs.Prelude.{ℕ, ◌<◌, ◌≡◌, Bool, true, false, ◌==◌, List, [], ◌∷◌, slice_index_or, Option, Some, None, position, if◌then◌else◌}
use Rattle.search.specs.declared.demand.Response.{Response}
use Rattle.search.specs.declared.demand.Response.TheVariants.{Within, Unschedulable}
use Rattle.table.specs.declared.tasks.name.Name.{Name}
use Rattle.table.specs.declared.Table.{Table}
use Rattle.table.specs.Names.{has_name}
use Rattle.table.specs.Tables.{tasks_of}
use Rattle.analysis.specs.Rows.{row_of}
use Rattle.changes.specs.declared.ResponseChange.{ResponseChange}
use Rattle.changes.specs.declared.Comparison.{Comparison}
use Rattle.changes.specs.declared.Source.{Source}
use Rattle.changes.specs.declared.Source.TheVariants.{Absent, Unread, Text}

-- ---- responses

abbrev pub is_same_response : Response → Response → Bool
is_same_response (Within a) (Within b) = a.0 == b.0
is_same_response (Within a) Unschedulable = false
is_same_response Unschedulable (Within b) = false
is_same_response Unschedulable Unschedulable = true

-- the response of the task at a place, under the method of a number; none where there is no such task
abbrev pub response_placed : Table → Option ℕ → ℕ → Response
response_placed table None m = Unschedulable
response_placed table (Some k) m = slice_index_or (row_of table k).responses m Unschedulable

-- of the task of a name
abbrev pub response_named : Table → Name → ℕ → Response
response_named table name m = response_placed table (position (has_name name) (tasks_of table)) m

-- what is told of two responses
abbrev pub response_moved : Name → ℕ → Response → Response → List ResponseChange
response_moved name m old new = if is_same_response old new then [] else record { task = name; method = m; old = old; new = new } ∷ []

-- a response that moved: that of a task under a method in the old table, and in the new one, which is another
pub record IsMoved (old new : Table) (c : ResponseChange) : Type 0 where
  pub method : c.method < 6
  pub before : c.old ≡ response_named old c.task c.method
  pub now : c.new ≡ response_named new c.task c.method
  pub differs : is_same_response c.old c.new ≡ false

-- ---- builds

-- nothing is told of a build
pub record IsUnmoved (c : Comparison) : Type 0 where
  pub fates : c.fates ≡ None
  pub figures : c.figures.items ≡ []
  pub responses : c.responses.items ≡ []
  pub verdicts : c.verdicts.items ≡ []

-- two builds of the same text
abbrev pub AreSameText : Source → Source → Type 0
AreSameText Absent new = ⊥
AreSameText Unread new = ⊥
AreSameText (Text old) Absent = ⊥
AreSameText (Text old) Unread = ⊥
AreSameText (Text old) (Text new) = old.now ≡ new.now
