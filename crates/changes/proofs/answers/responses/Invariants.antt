-- All so far moved.
use Rattle.std.specs.Prelude.{All}
use Rattle.changes.specs.Moved.{IsMoved}
use Rattle.changes.proofs.answers.responses.Given as goal

abbrev pub invariant-loop-task : goal.invariant-loop-task
invariant-loop-task l = All (IsMoved l.old.table.now l.new.table.now) l.moved.items

abbrev pub invariant-loop-gone : goal.invariant-loop-gone
invariant-loop-gone l = All (IsMoved l.old.table.now l.new.table.now) l.moved.items
