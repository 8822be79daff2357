-- `shares::listed` meets its contract: the shares before i stand at the front.
use Rattle.std.proofs.Common.{◌≡◌}
use Rattle.search.specs.Positions.{front}
use Rattle.search.specs.Terms.{term_in}
use Rattle.search.specs.Shares.{share_of}
use Rattle.search.proofs.shares.listed.Given as goal

abbrev pub invariant-loop-i : goal.invariant-loop-i
invariant-loop-i l = l.shares ≡ front 0 (λ j. share_of (term_in l.terms j)) l.i
