-- `covering::is_covered` meets its contract.
use Rattle.analysis.specs.Analysis.{MayBlock}
use Rattle.analysis.specs.Covering.{covers, is_covered}
use Rattle.analysis.proofs.BlockerLaws.{every-in-front, blockers-block}
use Rattle.analysis.proofs.CoveringLaws.{all-in-front}
use Rattle.analysis.proofs.covering.is_covered.Goals as goal

pub loop-access-init : goal.loop-access-init
unfolding is_covered
loop-access-init c =
    let a = c.args in
    let front = c.of-access-items.ensures in
    rw c.into_iter-access-iterator.ensures.into_iter_gives (record {
      answer = all-in-front (covers a.pending.table.now a.method a.pending.i a.time.0) front;
      block = every-in-front (λ b. MayBlock b a.pending.i) front (blockers-block a.pending.table.now a.pending.i c.args.pending.accepted);
    })
