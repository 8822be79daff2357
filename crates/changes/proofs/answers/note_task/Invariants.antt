-- All so far moved.
use Rattle.std.specs.Prelude.{All}
use Rattle.changes.specs.Moved.{IsMoved}
use Rattle.changes.proofs.answers.note_task.Given as goal

abbrev pub invariant-loop-method : goal.invariant-loop-method
invariant-loop-method l = All (IsMoved l.old.table.now l.new.table.now) l.moved.items
