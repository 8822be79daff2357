-- `carried::weigh_row`: the columns before j are carried past row i, and their terms are put in.
use Rattle.analysis.specs.Costs.{term_at}
use Rattle.analysis.specs.Carried.{LedgerInRow, FullTerms, HasTerms}
use Rattle.analysis.proofs.carried.weigh_row.Given as goal

abbrev pub invariant-loop-j : goal.invariant-loop-j
invariant-loop-j l = record {
  passing : LedgerInRow l.pending.table.now l.pending.i l.j l.ledger;
  long : FullTerms l.terms;
  terms : HasTerms (λ m k. term_at l.pending.table.now m l.pending.i k) 0 l.j l.terms;
}
