-- `grouping::heaviest` meets its contract: a period that is taken is short.
use Rattle.std.proofs.Common.{◌≤◌}
use Rattle.search.proofs.grouping.heaviest.Given as goal

abbrev pub invariant-loop-i : goal.invariant-loop-i
invariant-loop-i l = l.period ≤ 16384
