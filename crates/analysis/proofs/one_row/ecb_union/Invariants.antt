-- `one_row::ecb_union`: `Evicted`.
use Rattle.analysis.proofs.EvictedLaws.{Evicted}
use Rattle.analysis.proofs.one_row.ecb_union.Given as goal

abbrev pub invariant-loop-j : goal.invariant-loop-j
invariant-loop-j l = Evicted l.pending.table.now l.pending.i l.j l.row l.bounds
