-- The loop's invariant: going on from here gives the answers.
use Rattle.analysis.proofs.RowLaws.{Passed}
use Rattle.analysis.proofs.rows.over_all.Given as goal

abbrev pub invariant-loop-access : goal.invariant-loop-access
invariant-loop-access l = Passed l.pending.table.now l.pending.i l.latest l.access-iterator
