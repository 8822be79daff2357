-- `hasten::turn_at` meets its contract.
use Rattle.std.proofs.Common.{◌≡◌, length, arith}
use Rattle.search.proofs.DemandLaws.{demand-mono}
use Rattle.search.specs.Terms.{term_in}
use Rattle.search.specs.Shares.{share_of}
use Rattle.search.proofs.FrontLaws.{front_at}
use Rattle.search.proofs.HastenLaws.{turning-none, turning-next, turned_plain, turned-later}
use Rattle.search.proofs.hasten.turn_at.Goals as goal

pub loop-i-init : goal.loop-i-init
loop-i-init c = turning-none _ _ _

pub part_of-p-requires : goal.part_of-p-requires
part_of-p-requires c =
    let p = c.requires.0 in
    let v = c.loop-i.invariant in
    let same = front_at 0 (λ j. share_of (term_in c.args.terms.now j)) (length c.args.terms.now) c.loop-i.i 0 (omega arith) in
    (omega (arith, p.time), p.ranged _ (omega arith), omega arith, v.left-least, v.left-most, rw c.requires.3 same)

pub loop-i-preserved : goal.loop-i-preserved
loop-i-preserved c = turning-next _ _ _ _ _ _ _ _ _ c.loop-i.invariant c.part_of-p.ensures

pub returns-then-demand-next : goal.returns-then-demand-next
returns-then-demand-next c =
    let e : c.loop-i.i ≡ length c.args.terms.now = omega arith in
    let p = c.requires.0 in
    turned-later _ _ _ _ _ _ _ _ (rw e at c.loop-i.invariant) p.few p.own-most (omega arith) c.if-demand-next.true

pub returns-else-demand-next : goal.returns-else-demand-next
returns-else-demand-next c =
    let e : c.loop-i.i ≡ length c.args.terms.now = omega arith in
    let p = c.requires.0 in
    turned_plain _ _ _ _ _ _ _ _ (rw e at c.loop-i.invariant) p.few p.own-most (demand-mono _ _ _ p.ranged)

pub returns-else-counted-limit : goal.returns-else-counted-limit
returns-else-counted-limit c =
    let e : c.loop-i.i ≡ length c.args.terms.now = omega arith in
    let p = c.requires.0 in
    turned_plain _ _ _ _ _ _ _ _ (rw e at c.loop-i.invariant) p.few p.own-most (demand-mono _ _ _ p.ranged)
