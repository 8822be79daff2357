-- `one_row::evictors`: the unions down to each position before j are there, and `above` is the last of them.
use Rattle.std.proofs.Common.{◌≡◌}
use Rattle.cache.specs.Words.{members}
use Rattle.search.specs.Positions.{hp}
use Rattle.analysis.specs.Gather.{union_of}
use Rattle.analysis.specs.Costs.{ecb_of}
use Rattle.analysis.specs.Row.{Evictors}
use Rattle.analysis.proofs.one_row.evictors.Given as goal

abbrev pub invariant-loop-j : goal.invariant-loop-j
invariant-loop-j l = record { evictors : Evictors l.pending.table.now l.j l.unions; above : members l.above ≡ union_of (ecb_of l.pending.table.now) (hp l.j) }
