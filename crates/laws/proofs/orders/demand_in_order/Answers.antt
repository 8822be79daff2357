-- `laws::orders::demand_in_order` meets its contract.
use Rattle.std.proofs.Common.{ℕ, ◌+◌, ◌≡◌, refl, ap, ◌∙◌, length, take, List, arith}
use Rattle.std.proofs.Math.Seq.{take-length}
use Rattle.search.specs.Positions.{fold_by}
use Rattle.search.specs.Demand.{work_of}
use Rattle.search.specs.Terms.{term_in}
use Rattle.laws.specs.Equation.{demand_over}
use Rattle.laws.proofs.AnyOrder.{demand-each-once}
use Rattle.laws.proofs.OrderLaws.{once-below, demand-over-next, sum-front}
use Rattle.laws.proofs.orders.demand_in_order.Goals as goal

pub loop-j-init : goal.loop-j-init
unfolding fold_by
loop-j-init c = refl

pub offset_bounds-terms-j : goal.offset_bounds-terms-j
offset_bounds-terms-j c = omega (arith, once-below c.requires.order c.loop-j.j-index c.loop-j-test.true)

pub bounds-terms-j : goal.bounds-terms-j
bounds-terms-j c = once-below c.requires.order c.loop-j.j-index c.loop-j-test.true

pub work-demand-requires : goal.work-demand-requires
work-demand-requires c = (c.requires.addable.time, c.requires.addable.ranged _ (once-below c.requires.order c.loop-j.j-index c.loop-j-test.true))

pub overflow_add-demand : goal.overflow_add-demand
overflow_add-demand c =
    let a = c.args in
    let next = demand-over-next a.own.0 (term_in a.terms.now) a.order.now a.r c.loop-j.j-index c.loop-j-test.true in
    let front = sum-front a.own.0 (λ j. work_of a.r (term_in a.terms.now j)) a.order.now (c.loop-j.j-index + 1) in
    let whole = demand-each-once a.own.0 (term_in a.terms.now) (length a.terms.now) a.order.now c.requires.order a.r in
    omega (arith, next, front, whole, c.requires.addable.fits, c.loop-j.invariant, c.work-demand.ensures.0)

pub loop-j-preserved : goal.loop-j-preserved
loop-j-preserved c =
    let a = c.args in
    omega (arith, demand-over-next a.own.0 (term_in a.terms.now) a.order.now a.r c.loop-j.j-index c.loop-j-test.true, c.loop-j.invariant, c.work-demand.ensures.0)

pub returns : goal.returns
returns c =
    let a = c.args in
    let end : c.loop-j.j-index ≡ length a.order.now = omega arith in
    let whole : take c.loop-j.j-index a.order.now ≡ a.order.now = rw end (take-length a.order.now) in
    c.loop-j.invariant ∙ ap (λ (ks : List ℕ). demand_over a.own.0 (term_in a.terms.now) ks a.r) whole
    ∙ demand-each-once a.own.0 (term_in a.terms.now) (length a.terms.now) a.order.now c.requires.order a.r
