-- The lines so far are counted.
use Rattle.std.proofs.Common.{◌≡◌, ◌*◌, ◌≤◌, take, flat_map, length}
use Rattle.table.specs.Tables.{tasks_of, accesses_of}
use Rattle.table_text.proofs.Lengths.{access_line}
use Rattle.table_text.proofs.extent.accesses_len.Given as goal

abbrev pub invariant-loop-access : goal.invariant-loop-access
invariant-loop-access l = record {
  is : l.len ≡ length (flat_map (access_line l.table.form l.table.sets (tasks_of l.table)) (take l.access-index (accesses_of l.table)));
  few : l.len ≤ 1000 * l.access-index;
}
