-- `one_row::ecb_union` meets its contract.
use Rattle.std.proofs.Common.{◌≡◌, ◌+◌, ◌-◌, arith}
use Rattle.analysis.proofs.EvictedLaws.{evicted-none, evicted-next}
use Rattle.analysis.proofs.one_row.ecb_union.Goals as goal

pub loop-j-init : goal.loop-j-init
loop-j-init c = evicted-none c.args.pending.i (omega (arith, c.args.pending.accepted.few, c.args.pending.held)) c.args.pending.accepted c.requires

pub loop-j-preserved : goal.loop-j-preserved
loop-j-preserved c =
    let j = c.loop-j.j - 1 in
    let last : j + 1 ≡ c.loop-j.j = omega arith in
    evicted-next c.args.pending.i (omega (arith, c.args.pending.accepted.few, c.args.pending.held)) j (omega arith) (rw (← last) at c.loop-j.invariant) _
    (c.evictors-unions.ensures.each j (omega arith)) _ c.largest_shared-shared.ensures.0 c.largest_shared-shared.ensures.1
