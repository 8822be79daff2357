-- What is left to test, below the tasks that passed, decides as much as all.
use Rattle.std.proofs.Common.{◌≡◌, [], take, drop}
use Rattle.table_text.specs.Tests.{are_next}
use Rattle.table_text.proofs.readable.are_next.Given as goal

abbrev pub invariant-loop-k : goal.invariant-loop-k
invariant-loop-k l = are_next l.form l.sets (take l.k l.tasks) (drop l.k l.tasks) ≡ are_next l.form l.sets [] l.tasks
