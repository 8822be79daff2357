-- `one_row::ucb_only`: the charges from j on are in the row, and `most` is the largest UCB below j.
use Rattle.std.proofs.Common.{◌≡◌, ◌+◌}
use Rattle.cache.specs.Counts.{total}
use Rattle.search.specs.Positions.{between}
use Rattle.analysis.specs.declared.costs.Single.TheVariants.{UcbOnly}
use Rattle.analysis.specs.Gather.{largest_from}
use Rattle.analysis.specs.Costs.{ucb_of}
use Rattle.analysis.specs.Row.{Charged}
use Rattle.analysis.proofs.one_row.ucb_only.Given as goal

abbrev pub invariant-loop-j : goal.invariant-loop-j
invariant-loop-j l = record {
  charged : Charged l.pending.table.now UcbOnly l.pending.i l.j l.row;
  most : l.most ≡ largest_from (l.j + 1) (λ k. total (ucb_of l.pending.table.now k)) (between (l.j + 1) (l.pending.i + 1));
}
