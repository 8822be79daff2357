-- `response::least_beyond` meets its contract: no solution is below what the counts ask for, and where all of them hold up to it that is one.
use Rattle.std.proofs.Common.{ap, arith}
use Rattle.search.specs.declared.demand.Response.TheVariants.{Within}
use Rattle.search.specs.Least.{later}
use Rattle.search.proofs.LeastLaws.{found, past}
use Rattle.search.proofs.DemandLaws.{handed-for}
use Rattle.search.proofs.CountLaws.{asked-reached, asked-settled, raised-started, held-front}
use Rattle.search.proofs.response.least_beyond.Goals as goal

pub asked-time-requires : goal.asked-time-requires
asked-time-requires c = let p = c.requires.0 in (handed-for p p.own-least p.own-most (omega arith), c.requires.1.kept)

pub returns-then-limit-time-clause-result_value : goal.returns-then-limit-time-clause-result_value
returns-then-limit-time-clause-result_value c =
    let v = c.loop.invariant in ap (later (Within c.args.known)) (past _ _ _ (rw (← v.1) at (asked-reached c.requires.0 v.0)) (omega arith))

pub returns-then-hold-clause-result_value : goal.returns-then-hold-clause-result_value
returns-then-hold-clause-result_value c =
    let v = c.loop.invariant in
    let p = c.requires.0 in
    let e = asked-settled p v.0 _ v.1 (held-front _ _ _ v.0.kept.long (c.hold.ensures c.if-hold.true)) in
    ap (later (Within c.args.known)) (found _ _ _ (rw (← v.1) at (asked-reached p v.0)) (omega arith) e)

pub advance-time-requires : goal.advance-time-requires
advance-time-requires c =
    let p = c.requires.0 in (handed-for p p.own-least p.own-most (omega (arith, p.time)), c.loop.invariant.0.kept)

pub loop-preserved : goal.loop-preserved
loop-preserved c =
    let v = c.loop.invariant in
    let p = c.requires.0 in
    let at = rw (← v.1) at (asked-reached p v.0) in
    (raised-started p v.0 _ _ (omega (arith, p.time)) at c.advance-time.ensures.raised, c.advance-time.ensures.value)
