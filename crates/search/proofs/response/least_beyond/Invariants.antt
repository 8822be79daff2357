-- `response::least_beyond` meets its contract: no solution is below what the counts ask for, and where all of them hold up to it that is one.
use Rattle.std.proofs.Common.{◌≡◌, length}
use Rattle.search.specs.Terms.{term_in}
use Rattle.search.specs.Counts.{asked_of, Started}
use Rattle.search.proofs.response.least_beyond.Given as goal

abbrev pub invariant-loop : goal.invariant-loop
invariant-loop l =
    Started l.fn.own.0 (term_in l.terms) (length l.terms) l.counts
    × (l.time ≡ asked_of l.fn.own.0 (term_in l.terms) l.counts (length l.terms))
