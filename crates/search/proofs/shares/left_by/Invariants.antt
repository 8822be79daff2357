-- `shares::left_by` meets its contract.
use Rattle.std.proofs.Common.{◌≡◌, ◌-◌}
use Rattle.search.specs.Terms.{term_in}
use Rattle.search.specs.Shares.{shares_of}
use Rattle.search.proofs.shares.left_by.Given as goal

abbrev pub invariant-loop-term : goal.invariant-loop-term
invariant-loop-term l = l.left ≡ 17179869184 - shares_of (term_in l.terms) l.term-index
