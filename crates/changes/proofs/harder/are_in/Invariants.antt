-- Each so far is in the second.
use Rattle.std.proofs.Common.{◌≡◌, true, not, ◌||◌}
use Rattle.cache.specs.Words.{members}
use Rattle.changes.specs.Relations.{holds_below}
use Rattle.changes.proofs.harder.are_in.Given as goal

abbrev pub invariant-loop-s : goal.invariant-loop-s
invariant-loop-s l = holds_below l.s (λ s. not (members l.first s) || members l.second s) ≡ true
