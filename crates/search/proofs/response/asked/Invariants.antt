-- `response::asked` meets its contract: the sum is what the counts before i ask for, and at most a bound for each.
use Rattle.std.proofs.Common.{◌≡◌, ◌+◌, ◌*◌, ◌≤◌}
use Rattle.search.specs.Terms.{term_in}
use Rattle.search.specs.Counts.{asked_of}
use Rattle.search.proofs.response.asked.Given as goal

abbrev pub invariant-loop-i : goal.invariant-loop-i
invariant-loop-i l = (l.sum ≡ asked_of l.own (term_in l.terms) l.counts l.i) × (l.sum ≤ l.own + l.i * 500000000000000000)
