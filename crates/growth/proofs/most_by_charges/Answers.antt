-- `growth::most_by_charges` meets its contract.
use Rattle.std.proofs.Common.{◌+◌, ◌/◌, ◌≤◌, sym, ap, ◌∙◌, arith}
use Rattle.analysis.proofs.JoinLaws.{row-few}
use Rattle.search.specs.Least.{has_response}
use Rattle.search.proofs.CountLaws.{ones-started}
use Rattle.growth.proofs.BoundLaws.{bounds-all, spans-none}
use Rattle.growth.proofs.TriedLaws.{at-limit, stretches-less, tried-handed, tried-demand, tried-least, tried-descends, started-in, started-out, started-ones, started-more}
use Rattle.growth.proofs.most_by_charges.Goals as goal

pub overflow_sub-limit : goal.overflow_sub-limit
overflow_sub-limit c = let p = c.requires in rw c.task-task.ensures (p.0.accepted.tasks c.args.i p.1).jitter

pub scaled_work-work-requires : goal.scaled_work-work-requires
scaled_work-work-requires c = let p = c.requires in rw c.task-task.ensures ((p.0.accepted.tasks c.args.i p.1).work.1, p.0.most)

pub scaled_terms-terms-requires : goal.scaled_terms-terms-requires
scaled_terms-terms-requires c =
    let p = c.requires in (p.0, p.1, row-few c.args.table.now c.args.access.now c.args.method c.args.i c.requires.2 p.0.accepted)

pub demand_by_row-requires : goal.demand_by_row-requires
demand_by_row-requires c =
    let a = c.args in
    let p = c.requires in
    let h = tried-handed a.table.now a.access.now a.method a.i p.1 p.3 c.requires.2 p.0 (omega arith) in
    rw (c.scaled_work-work.ensures, c.task-task.ensures) (p.0, p.1, row-few a.table.now a.access.now a.method a.i c.requires.2 p.0.accepted, h.own-most, h.time)

pub returns-then-demand_by_row-limit : goal.returns-then-demand_by_row-limit
returns-then-demand_by_row-limit c =
    let a = c.args in
    let p = c.requires in
    let h = tried-handed a.table.now a.access.now a.method a.i p.1 p.3 c.requires.2 p.0 (omega arith) in
    let few = rw c.demand_by_row.ensures at c.if-demand_by_row-limit.true in
    let told = rw (c.scaled_work-work.ensures, c.task-task.ensures) at few in
    let listed = rw (tried-demand a.table.now a.access.now a.method a.i p.1 p.3 c.requires.2 p.0 (omega arith) _ _) at told in
    let is = at-limit h listed ∙ ap has_response (tried-least a.table.now a.access.now a.method a.i p.1 p.3 c.requires.2 p.0 (omega arith)) in
    bounds-all _ _ (tried-descends a.table.now a.access.now a.method a.i p.1 p.3 p.0) (sym is)

pub firsts-counts-requires : goal.firsts-counts-requires
firsts-counts-requires c =
    let a = c.args in
    let p = c.requires in
    let h = tried-handed a.table.now a.access.now a.method a.i p.1 p.3 c.requires.2 p.0 (omega arith) in
    rw c.scaled_terms-terms.ensures (h.few, λ j l. (h.ranged j l).jitter)

pub responds-requires : goal.responds-requires
responds-requires c =
    let a = c.args in
    let p = c.requires in
    let h = tried-handed a.table.now a.access.now a.method a.i p.1 p.3 c.requires.2 p.0 (omega arith) in
    rw (c.firsts-counts.ensures, c.scaled_terms-terms.ensures, c.scaled_work-work.ensures, c.task-task.ensures) (h, ones-started h)

pub returns-then-responds : goal.returns-then-responds
returns-then-responds c =
    let a = c.args in
    let p = c.requires in
    let told = rw (c.scaled_terms-terms.ensures, c.scaled_work-work.ensures, c.task-task.ensures) at c.responds.ensures.value in
    let is = told ∙ ap has_response (tried-least a.table.now a.access.now a.method a.i p.1 p.3 c.requires.2 p.0 (omega arith)) in
    bounds-all _ _ (tried-descends a.table.now a.access.now a.method a.i p.1 p.3 p.0) (sym is ∙ c.if-responds.true)

pub loop-low-init : goal.loop-low-init
loop-low-init c =
    let a = c.args in
    let p = c.requires in
    let told = rw (c.scaled_terms-terms.ensures, c.scaled_work-work.ensures, c.task-task.ensures) at c.responds.ensures.value in
    let is = told ∙ ap has_response (tried-least a.table.now a.access.now a.method a.i p.1 p.3 c.requires.2 p.0 (omega arith)) in (
      record { under = omega arith; most = omega arith; passes = λ h. absurd (omega (arith, h)); fails = sym is ∙ c.if-responds.false },
      λ k l some h. rw (c.firsts-counts.ensures, c.scaled_terms-terms.ensures) (started-ones a.table.now a.access.now a.method a.i p.1 p.3 c.requires.2 p.0 some h),
    )

pub scaled_work-work-requires-in-loop-low : goal.scaled_work-work-requires-in-loop-low
scaled_work-work-requires-in-loop-low c =
    let p = c.requires in
    let most : (c.loop-low.low + c.loop-low.high) / 2 ≤ c.args.most = omega (arith, c.loop-low.invariant.0.most) in
    rw c.task-task.ensures ((p.0.accepted.tasks c.args.i p.1).work.1, omega (arith, p.0.most))

pub scaled_terms-terms-requires-in-loop-low : goal.scaled_terms-terms-requires-in-loop-low
scaled_terms-terms-requires-in-loop-low c =
    let p = c.requires in
    let most : (c.loop-low.low + c.loop-low.high) / 2 ≤ c.args.most = omega (arith, c.loop-low.invariant.0.most) in
    (stretches-less _ most p.0, p.1, row-few c.args.table.now c.args.access.now c.args.method c.args.i c.requires.2 p.0.accepted)

pub responds-requires-in-loop-low : goal.responds-requires-in-loop-low
responds-requires-in-loop-low c =
    let a = c.args in
    let p = c.requires in
    let most : (c.loop-low.low + c.loop-low.high) / 2 ≤ c.args.most = omega (arith, c.loop-low.invariant.0.most) in
    let some : 1 ≤ (c.loop-low.low + c.loop-low.high) / 2 = omega arith in
    let s = stretches-less _ most p.0 in
    rw (c.scaled_terms-terms-in-loop-low.ensures, c.scaled_work-work-in-loop-low.ensures, c.task-task.ensures) (
      tried-handed a.table.now a.access.now a.method a.i p.1 p.3 c.requires.2 s some,
      started-in a.table.now a.access.now a.method a.i p.1 p.3 c.requires.2 s some _ (c.loop-low.invariant.1 _ (omega arith) some most),
    )

pub loop-low-preserved-then-responds-2 : goal.loop-low-preserved-then-responds-2
loop-low-preserved-then-responds-2 c =
    let a = c.args in
    let p = c.requires in
    let spans = c.loop-low.invariant.0 in
    let most : (c.loop-low.low + c.loop-low.high) / 2 ≤ c.args.most = omega (arith, spans.most) in
    let some : 1 ≤ (c.loop-low.low + c.loop-low.high) / 2 = omega arith in
    let s = stretches-less _ most p.0 in
    let told = rw (c.scaled_terms-terms-in-loop-low.ensures, c.scaled_work-work-in-loop-low.ensures, c.task-task.ensures) at c.responds-in-loop-low.ensures.value in
    let is = told ∙ ap has_response (tried-least a.table.now a.access.now a.method a.i p.1 p.3 c.requires.2 s some) in
    let started = rw (c.scaled_terms-terms-in-loop-low.ensures, c.scaled_work-work-in-loop-low.ensures, c.task-task.ensures) at c.responds-in-loop-low.ensures.started in (
      record { under = omega arith; most = spans.most; passes = λ l. sym is ∙ c.if-responds-2.true; fails = spans.fails },
      λ k l by m.
          started-more a.table.now a.access.now a.method a.i p.1 p.3 _ (stretches-less k m p.0) some l
          (started-out a.table.now a.access.now a.method a.i p.1 p.3 c.requires.2 s some _ started),
    )

pub loop-low-preserved : goal.loop-low-preserved
loop-low-preserved c =
    let a = c.args in
    let p = c.requires in
    let spans = c.loop-low.invariant.0 in
    let most : (c.loop-low.low + c.loop-low.high) / 2 ≤ c.args.most = omega (arith, spans.most) in
    let some : 1 ≤ (c.loop-low.low + c.loop-low.high) / 2 = omega arith in
    let s = stretches-less _ most p.0 in
    let told = rw (c.scaled_terms-terms-in-loop-low.ensures, c.scaled_work-work-in-loop-low.ensures, c.task-task.ensures) at c.responds-in-loop-low.ensures.value in
    let is = told ∙ ap has_response (tried-least a.table.now a.access.now a.method a.i p.1 p.3 c.requires.2 s some) in
    (record { under = omega arith; most = most; passes = spans.passes; fails = sym is ∙ c.if-responds-2.false }, c.loop-low.invariant.1)

pub returns : goal.returns
returns c =
    let a = c.args in
    let p = c.requires in
    spans-none _ _ _ _ (tried-descends a.table.now a.access.now a.method a.i p.1 p.3 p.0) c.loop-low.invariant.0 (omega arith)
