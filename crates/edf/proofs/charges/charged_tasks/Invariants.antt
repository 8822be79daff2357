-- The tasks so far stand at the front.
use Rattle.std.proofs.Common.{◌≡◌}
use Rattle.search.specs.Positions.{front}
use Rattle.edf.specs.Charges.{charged_at, no_charged_task}
use Rattle.edf.proofs.charges.charged_tasks.Given as goal

abbrev pub invariant-loop-i : goal.invariant-loop-i
invariant-loop-i l = l.tasks ≡ front no_charged_task (charged_at l.accepted.table.now) l.i
