-- The lines so far are counted.
use Rattle.std.proofs.Common.{◌≡◌, ◌*◌, ◌≤◌, take, flat_map, length}
use Rattle.table.specs.Tables.{tasks_of}
use Rattle.table_text.proofs.Lengths.{task_line}
use Rattle.table_text.proofs.extent.tasks_len.Given as goal

abbrev pub invariant-loop-task : goal.invariant-loop-task
invariant-loop-task l = record {
  is : l.len ≡ length (flat_map (task_line l.table.form l.table.sets) (take l.task-index (tasks_of l.table)));
  few : l.len ≤ 1000 * l.task-index;
}
