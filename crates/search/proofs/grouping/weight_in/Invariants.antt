-- `grouping::weight_in` meets its contract: the sum is at most a bound for each term before i.
use Rattle.std.proofs.Common.{◌≤◌, ◌*◌}
use Rattle.search.proofs.grouping.weight_in.Given as goal

abbrev pub invariant-loop-i : goal.invariant-loop-i
invariant-loop-i l = l.sum ≤ l.i * 500000000
