-- None so far has more.
use Rattle.std.proofs.Common.{◌≡◌, true, leb}
use Rattle.cache.specs.Levels.{counts}
use Rattle.changes.specs.Relations.{holds_below}
use Rattle.changes.proofs.harder.are_no_more.Given as goal

abbrev pub invariant-loop-s : goal.invariant-loop-s
invariant-loop-s l = holds_below l.s (λ s. leb (counts l.ways l.first s) (counts l.ways l.second s)) ≡ true
