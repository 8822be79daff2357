-- The loop's invariant: the ledger, the counts and the rows are there for the tasks above i.
use Rattle.std.proofs.Common.{◌≡◌}
use Rattle.search.specs.Positions.{front}
use Rattle.analysis.specs.Carried.{Ledger, FullTerms}
use Rattle.analysis.specs.Rows.{CarriedCounts, no_row, row_of}
use Rattle.analysis.proofs.rows.each_row.Given as goal

abbrev pub invariant-loop-i : goal.invariant-loop-i
invariant-loop-i l = record {
  ledger : Ledger l.accepted.table.now l.i l.ledger;
  long : FullTerms l.terms;
  left : CarriedCounts l.accepted.table.now l.i l.counts;
  rows : l.rows ≡ front no_row (row_of l.accepted.table.now) l.i;
}
