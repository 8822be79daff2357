-- `hasten::counted_at` meets its contract: the sum is what the terms before i ask for that are not taken.
use Rattle.std.proofs.Common.{◌≡◌, ◌+◌, ◌*◌, ◌≤◌}
use Rattle.search.specs.Terms.{term_in}
use Rattle.search.specs.Classes.{works_over, counted}
use Rattle.search.proofs.hasten.counted_at.Given as goal

abbrev pub invariant-loop-i : goal.invariant-loop-i
invariant-loop-i l =
    (l.sum ≡ l.own + works_over (counted l.classes) (term_in l.terms) l.i l.r) × (l.sum ≤ l.own + l.i * 250000000000000000)
