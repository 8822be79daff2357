-- `response::advance` meets its contract: the counts before i are raised and asked for, and the others stand.
use Rattle.std.proofs.Common.{◌<◌, length, sym, arith}
use Rattle.search.proofs.CountLaws.{asks-bound, kept-few, asked-none, asked-raised, passed_none, passed-next}
use Rattle.search.proofs.response.advance.Goals as goal

pub loop-i-init : goal.loop-i-init
loop-i-init c = (omega (arith, asked-none), omega arith, passed_none _ _ _)

pub raised-count-requires : goal.raised-count-requires
raised-count-requires c =
    let i = c.loop-i.i in
    let few : i < length c.args.terms.now = omega arith in
    let same = c.loop-i.invariant.2.rest i (omega arith) in
    let p = c.requires.0.ranged i few in
    let k = c.requires.1 in
    rw same (p, kept-few _ _ p (k.soon i few) (k.holds i few), k.soon i few, c.requires.0.time)

pub overflow_mul-sum : goal.overflow_mul-sum
overflow_mul-sum c = omega (arith, asks-bound _ _ c.raised-count.ensures.1 (c.requires.0.ranged c.loop-i.i (omega arith)).weight)

pub overflow_add-sum : goal.overflow_add-sum
overflow_add-sum c = omega (arith, asks-bound _ _ c.raised-count.ensures.1 (c.requires.0.ranged c.loop-i.i (omega arith)).weight)

pub loop-i-preserved : goal.loop-i-preserved
loop-i-preserved c =
    let p = c.loop-i.invariant.2 in
    let few : c.loop-i.i < length c.loop-i.counts = omega (arith, p.raised.long, c.requires.1.long) in (
      rw c.loop-i.invariant.0 (sym (asked-raised _ _ _ _ _ few)),
      omega (arith, asks-bound _ _ c.raised-count.ensures.1 (c.requires.0.ranged c.loop-i.i (omega arith)).weight),
      passed-next _ _ _ _ _ _ few c.raised-count.ensures.0 p,
    )
