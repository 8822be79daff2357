-- `useful::Useful::size_in` meets its contract.
use Rattle.std.proofs.Common.{sym, ap, arith}
use Rattle.cache.specs.Sets.{size}
use Rattle.cache.specs.Words.{members}
use Rattle.cache.proofs.LevelLaws.{total-on-none, total-on-more}
use Rattle.cache.proofs.useful.Useful.size_in.Goals as goal

pub loop-l-init : goal.loop-l-init
loop-l-init c = (sym (total-on-none _ _), omega arith)

pub loop-l-preserved : goal.loop-l-preserved
loop-l-preserved c = (
  omega (
    arith,
    total-on-more c.loop-l.l c.args.self.now.levels (members c.args.evicting),
    c.size-sum.ensures.count,
    ap size c.intersection.ensures,
  ),
  omega (arith, c.size-sum.ensures.most),
)
