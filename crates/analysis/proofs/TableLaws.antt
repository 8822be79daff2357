-- What follows of an accepted table.
use Rattle.std.proofs.Common.{◌<◌, le_refl, arith, ◌≡◌, ap, length}
use Rattle.std.proofs.Math.Decide.{dec_lt}
use Rattle.std.proofs.lemmas.List.{length-take, get_or_past}
use Rattle.table.specs.declared.tasks.Task.{Task}
use Rattle.table.specs.Tasks.{blank}
use Rattle.table.specs.declared.Table.{Table}
use Rattle.table.specs.Tables.{tasks_of, at}
use Rattle.table.specs.Accepted.{AcceptedTable}

-- it has as many tasks as are counted
pub tasks-counted : (table : Table) → AcceptedTable table → length (tasks_of table) ≡ table.count
unfolding at
tasks-counted table accepted = elim (dec_lt (length (tasks_of table)) table.count) [
  | yes l ↦
      (let none : (at table (length (tasks_of table))).work.0 ≡ 0 = ap (λ (t : Task). t.work.0) (get_or_past (tasks_of table) (length (tasks_of table)) blank (le_refl _)) in
      absurd (omega (arith, none, (accepted.tasks (length (tasks_of table)) l).work.0)))
  | no l ↦ omega (arith, length-take table.count table.tasks)
]
