-- `rounds::left_by_taken` meets its contract: left is what the shares before i leave.
use Rattle.std.proofs.Common.{◌≡◌, ◌-◌}
use Rattle.search.specs.Terms.{term_in}
use Rattle.search.specs.Classes.{shares_over, taken}
use Rattle.search.proofs.rounds.left_by_taken.Given as goal

abbrev pub invariant-loop-i : goal.invariant-loop-i
invariant-loop-i l = l.left ≡ 17179869184 - shares_over (taken l.classes) (term_in l.terms) l.i
