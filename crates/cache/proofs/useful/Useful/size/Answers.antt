-- `useful::Useful::size` meets its contract.
use Rattle.std.proofs.Common.{sym, arith}
use Rattle.cache.proofs.LevelLaws.{total-none, total-more}
use Rattle.cache.proofs.useful.Useful.size.Goals as goal

pub loop-l-init : goal.loop-l-init
loop-l-init c = (sym (total-none _), omega arith)

pub loop-l-preserved : goal.loop-l-preserved
loop-l-preserved c =
    (omega (arith, total-more c.loop-l.l c.args.self.now.levels, c.size-sum.ensures.count), omega (arith, c.size-sum.ensures.most))
