-- `response::advance` meets its contract: the counts before i are raised and asked for, and the others stand.
use Rattle.std.proofs.Common.{◌≡◌, ◌+◌, ◌*◌, ◌≤◌}
use Rattle.search.specs.Terms.{term_in}
use Rattle.search.specs.Counts.{asked_of}
use Rattle.search.proofs.CountLaws.{Passed}
use Rattle.search.proofs.response.advance.Given as goal

abbrev pub invariant-loop-i : goal.invariant-loop-i
invariant-loop-i l =
    (l.sum ≡ asked_of l.own (term_in l.terms) l.counts l.i) × (l.sum ≤ l.own + l.i * 500000000000000000)
    × Passed (term_in l.terms) l.r l.initial.counts l.i l.counts
