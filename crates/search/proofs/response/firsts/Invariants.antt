-- `response::firsts` meets its contract: the counts before i stand at the front.
use Rattle.std.proofs.Common.{◌≡◌}
use Rattle.search.specs.Positions.{front}
use Rattle.search.specs.Terms.{term_in}
use Rattle.search.specs.Counts.{count, once}
use Rattle.search.proofs.response.firsts.Given as goal

abbrev pub invariant-loop-i : goal.invariant-loop-i
invariant-loop-i l = l.counts ≡ front (count 0 0) (λ j. once (term_in l.terms j)) l.i
