-- `grouping::set_apart` meets its contract: the classes before i are set.
use Rattle.search.specs.Terms.{term_in}
use Rattle.search.specs.Grouping.{ShortTaken}
use Rattle.search.proofs.grouping.set_apart.Given as goal

abbrev pub invariant-loop-i : goal.invariant-loop-i
invariant-loop-i l = ShortTaken (term_in l.terms) l.i l.classes
