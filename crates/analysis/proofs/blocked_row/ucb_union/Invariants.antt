-- The loop's invariant: the charges from j on are in the row, and `all` has the useful blocks below j.
use Rattle.std.proofs.Common.{◌≡◌, ◌+◌}
use Rattle.cache.specs.Counts.{capped}
use Rattle.cache.specs.Levels.{counts}
use Rattle.table.specs.Tables.{ways_in}
use Rattle.search.specs.Positions.{between}
use Rattle.analysis.specs.declared.costs.Single.TheVariants.{UcbUnion}
use Rattle.analysis.specs.Gather.{counts_over}
use Rattle.analysis.specs.Costs.{ucb_of}
use Rattle.analysis.specs.BlockedRow.{ChargedUnder}
use Rattle.analysis.proofs.blocked_row.ucb_union.Given as goal

abbrev pub invariant-loop-j : goal.invariant-loop-j
invariant-loop-j l = record {
  charged : ChargedUnder l.pending.table.now l.access UcbUnion l.pending.i l.j l.row;
  all : counts (ways_in l.pending.table.now) l.all ≡ capped (ways_in l.pending.table.now) (counts_over (ucb_of l.pending.table.now) (between (l.j + 1) (l.pending.i + 1)));
  ways : l.ways ≡ ways_in l.pending.table.now;
}
