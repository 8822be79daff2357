-- `grouping::longer` meets its contract: the best is the round or one that is joined.
use Rattle.std.proofs.Common.{◌≤◌}
use Rattle.search.proofs.grouping.longer.Given as goal

abbrev pub invariant-loop-i : goal.invariant-loop-i
invariant-loop-i l = (1 ≤ l.best) × (l.best ≤ 16384)
