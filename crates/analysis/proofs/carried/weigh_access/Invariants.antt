-- `carried::weigh_access`: the terms before j are those with the access.
use Rattle.analysis.specs.Costs.{term_at, term_under}
use Rattle.analysis.specs.Carried.{FullTerms, HasTerms}
use Rattle.analysis.proofs.carried.weigh_access.Given as goal

abbrev pub invariant-loop-j : goal.invariant-loop-j
invariant-loop-j l = record {
  long : FullTerms l.terms;
  under : HasTerms (λ m k. term_under l.pending.table.now l.access m l.pending.i k) 0 l.j l.terms;
  rest : HasTerms (λ m k. term_at l.pending.table.now m l.pending.i k) l.j l.pending.i l.terms;
}
