-- The lines so far stand in their place.
use Rattle.std.proofs.Common.{take, flat_map}
use Rattle.table.specs.Tables.{tasks_of}
use Rattle.writing.specs.Delivery.{PutsTextAt}
use Rattle.table_text.proofs.Lengths.{task_line}
use Rattle.table_text.proofs.put_tasks.Given as goal

abbrev pub invariant-loop-task : goal.invariant-loop-task
invariant-loop-task l = PutsTextAt (flat_map (task_line l.table.form l.table.sets) (take l.task-index (tasks_of l.table))) l.from l.initial.out l.at l.out
