-- The loop's invariant: the charges from j on are those with the access.
use Rattle.analysis.specs.declared.costs.Single.TheVariants.{UcbOnly}
use Rattle.analysis.proofs.JoinLaws.{Joined}
use Rattle.analysis.proofs.blocked_row.ucb_only.Given as goal

abbrev pub invariant-loop-j : goal.invariant-loop-j
invariant-loop-j l = Joined l.pending.table.now l.fn.access UcbOnly l.pending.i l.j l.row
