-- `blockers::next_blocking`: those that may block are among the rest.
use Rattle.std.proofs.Common.{◌≡◌, length}
use Rattle.table.specs.Accesses.{blocking}
use Rattle.analysis.proofs.blockers.next_blocking.Given as goal

abbrev pub invariant-loop-access : goal.invariant-loop-access
invariant-loop-access l = blocking l.i l.fn.accesses ≡ blocking l.i l.rest

abbrev pub decreases-loop-access : goal.decreases-loop-access
decreases-loop-access l = length l.rest
