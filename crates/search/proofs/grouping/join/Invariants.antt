-- `grouping::join` meets its contract: only terms that are taken come into a round.
use Rattle.std.proofs.Common.{length}
use Rattle.search.specs.Terms.{term_in}
use Rattle.search.specs.Grouping.{ShortTaken}
use Rattle.search.proofs.grouping.join.Given as goal

abbrev pub invariant-loop-i : goal.invariant-loop-i
invariant-loop-i l = ShortTaken (term_in l.terms) (length l.terms) l.classes
