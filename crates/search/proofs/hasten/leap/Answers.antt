-- `hasten::leap` meets its contract: what is known of the rounds at any time, or in the windows of one step, bounds each solution.
use Rattle.std.proofs.Common.{◌≡◌, ◌+◌, ◌*◌, length, arith}
use Rattle.search.specs.Demand.{demand_of}
use Rattle.search.specs.Terms.{term_in}
use Rattle.search.specs.Least.{Reached}
use Rattle.search.proofs.LeapLaws.{ahead_none, ahead-next, step-some, step-next, step-least, leapt-all, leapt-soon}
use Rattle.search.proofs.hasten.leap.Goals as goal
use Rattle.search.proofs.hasten.leap.Goals.{then-best-end, else-best-end}

pub returns-then-next-all-clause-reached : goal.returns-then-next-all-clause-reached
returns-then-next-all-clause-reached c =
    leapt-all _ _ _ _ _ c.requires.handed.0.ranged c.requires.rounds _ _ c.requires.reached.0 c.counted_at-counted.ensures.0

pub loop-v-init : goal.loop-v-init
loop-v-init c = ahead_none _ _ _ _ _

pub loop-v-preserved : goal.loop-v-preserved
loop-v-preserved c =
    rw c.window_at-ahead.ensures (ahead-next _ _ _ _ _ _ _ _ _ (step-some _ c.loop-step.invariant.0 (omega arith)) (c.requires.rounds.windowed c.loop-v.v (omega arith)) c.loop-v.invariant)

pub returns-then-bound-end-clause-reached : goal.returns-then-bound-end-clause-reached
returns-then-bound-end-clause-reached c =
    let e : c.loop-v.v ≡ c.args.rounds.now.made = omega arith in
    leapt-soon _ _ _ _ _ c.requires.handed.0.ranged c.requires.rounds _ _ c.requires.reached.0 c.counted_at-counted.ensures.0
    _ _ _ (rw e at c.loop-v.invariant) (omega arith) c.if-bound-end.true

pub loop-step-preserved : goal.loop-step-preserved
loop-step-preserved c =
    let i = c.loop-step.invariant in
    let is = step-some _ i.0 (omega arith) in
    let m = step-least _ is in
    let e : c.loop-v.v ≡ c.args.rounds.now.made = omega arith in
    let at : Reached (demand_of c.args.own (term_in c.args.terms.now) (length c.args.terms.now)) (c.args.r + 4 * c.loop-step.step) =
    leapt-soon _ _ _ _ _ c.requires.handed.0.ranged c.requires.rounds _ _ c.requires.reached.0 c.counted_at-counted.ensures.0
    _ _ _ (rw e at c.loop-v.invariant) (omega arith) (omega arith) in
    elim c.if-best-end.branch [
      | then-best-end w ↦ (step-next _ is, omega arith, omega (arith, c.requires.handed.0.time), rw w.best-is at)
      | else-best-end w ↦ (step-next _ is, omega arith, omega arith, rw w.best-is i.3)
    ]
