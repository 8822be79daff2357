-- `hasten::turn_at` meets its contract.
use Rattle.search.specs.Terms.{term_in}
use Rattle.search.proofs.HastenLaws.{Turning}
use Rattle.search.proofs.hasten.turn_at.Given as goal

abbrev pub invariant-loop-i : goal.invariant-loop-i
invariant-loop-i l = Turning l.own (term_in l.terms) l.r l.i l.demand l.counted l.extra l.left
