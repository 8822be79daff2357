-- `response::finish` meets its contract: the counts are raised to a time that no solution is below.
use Rattle.std.proofs.Common.{ap, arith}
use Rattle.search.specs.declared.demand.Response.TheVariants.{Within}
use Rattle.search.specs.Least.{later}
use Rattle.search.proofs.LeastLaws.{past, end-reached}
use Rattle.search.proofs.DemandLaws.{handed-for, demand-mono}
use Rattle.search.proofs.LaterLaws.{later-covered}
use Rattle.search.proofs.CountLaws.{asked-reached, raised-started}
use Rattle.search.proofs.response.finish.Goals as goal

pub returns-then-limit-start-clause-result_value : goal.returns-then-limit-start-clause-result_value
returns-then-limit-start-clause-result_value c =
    let p = c.requires in ap (later (Within c.args.known)) (past _ _ _ (asked-reached p.0 p.1) (omega arith))

pub hasten-found-requires : goal.hasten-found-requires
hasten-found-requires c = let p = c.requires in (p.0, omega arith, rw p.2 (asked-reached p.0 p.1))

pub advance-requires : goal.advance-requires
advance-requires c =
    let p = c.requires in
    let at = end-reached _ (demand-mono _ _ _ p.0.ranged) _ _ c.hasten-found.ensures in
    (handed-for p.0 p.0.own-least p.0.own-most (omega (arith, at.0, p.0.time, c.end_of.ensures)), p.1.kept)

pub returns-clause-started : goal.returns-clause-started
returns-clause-started c =
    let p = c.requires in
    let at = end-reached _ (demand-mono _ _ _ p.0.ranged) _ _ c.hasten-found.ensures in
    raised-started p.0 p.1 _ _ (omega (arith, at.0, p.0.time, c.end_of.ensures)) (rw c.end_of.ensures at.1) c.advance.ensures.raised

pub returns-clause-result_value : goal.returns-clause-result_value
returns-clause-result_value c = ap (later (Within c.args.known)) c.hasten-found.ensures

pub returns-then-demand_at-known-clause-result_value : goal.returns-then-demand_at-known-clause-result_value
returns-then-demand_at-known-clause-result_value c =
    later-covered _ (demand-mono _ _ _ c.requires.0.ranged) _ _ (omega arith) (rw c.demand_at.ensures at c.if-demand_at-known.true)
