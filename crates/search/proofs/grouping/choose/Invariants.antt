-- `grouping::choose` meets its contract: each turn makes a round that is short.
use Rattle.std.proofs.Common.{length}
use Rattle.search.specs.Terms.{term_in}
use Rattle.search.specs.Grouping.{Chosen}
use Rattle.search.proofs.grouping.choose.Given as goal

abbrev pub invariant-loop-made : goal.invariant-loop-made
invariant-loop-made l = Chosen (term_in l.terms) (length l.terms) l.made l.classes l.ticks
