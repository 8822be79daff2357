-- `rounds::lacking` meets its contract: what the terms before i lack is added up.
use Rattle.search.specs.Terms.{term_in}
use Rattle.search.specs.Rounds.{LacksIn}
use Rattle.search.proofs.rounds.lacking.Given as goal

abbrev pub invariant-loop-i : goal.invariant-loop-i
invariant-loop-i l = LacksIn (term_in l.terms) l.i l.classes l.round l.ticks l.count l.lacks
