-- `one_row::largest_shared`: the most that is shared before k.
use Rattle.std.proofs.Common.{◌≡◌, ◌+◌}
use Rattle.cache.specs.Words.{members}
use Rattle.search.specs.Positions.{between}
use Rattle.analysis.specs.Gather.{largest_from}
use Rattle.analysis.specs.Row.{shared_of, AtMost}
use Rattle.analysis.proofs.one_row.largest_shared.Given as goal

abbrev pub invariant-loop-k : goal.invariant-loop-k
invariant-loop-k l = record {
  most : l.most ≡ largest_from (l.j + 1) (shared_of l.pending.table.now (members l.ecbs)) (between (l.j + 1) l.k);
  bounded : AtMost (shared_of l.pending.table.now (members l.ecbs)) l.bounds;
}
