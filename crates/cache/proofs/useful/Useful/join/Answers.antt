-- `useful::Useful::join` meets its contract.
use Rattle.std.proofs.Common.{arith}
use Rattle.cache.proofs.LevelLaws.{join-none, join_more, put-twice}
use Rattle.cache.proofs.useful.Useful.join.Goals as goal

pub loop-k-init : goal.loop-k-init
loop-k-init c = join-none _ _ _

pub loop-k-preserved : goal.loop-k-preserved
loop-k-preserved c = join_more _ _ _ _ c.loop-k.invariant (put-twice c.put-left.ensures c.put.ensures (omega arith))
