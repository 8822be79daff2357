-- The first that has more.
use Rattle.std.proofs.Common.{sym, arith, leb}
use Rattle.cache.specs.Levels.{counts}
use Rattle.changes.proofs.Below.{fails_below, not-leb}
use Rattle.changes.proofs.harder.are_no_more.Goals as goal

pub returns-then-count : goal.returns-then-count
returns-then-count c =
    sym
    (fails_below 256 c.loop-s.s (λ s. leb (counts c.args.ways c.args.first.now s) (counts c.args.ways c.args.second.now s)) (omega arith)
    (not-leb _ _ (omega (arith, c.count.ensures.count, c.count-in-loop-s.ensures.count, c.if-count.true))))
