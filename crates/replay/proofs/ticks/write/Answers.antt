-- By the tally, and by what a page has room for.
use Rattle.std.proofs.Common.{ap, length, arith, ◌≡◌}
use Rattle.replay.proofs.LoopLaws.{tally-none, tasks-long, may-tick}
use Rattle.replay.proofs.PageLaws.{page-start, page-next, page-end, page-short, line-room, runner-there}
use Rattle.replay.proofs.ticks.write.Goals as goal

pub loop-t-init : goal.loop-t-init
loop-t-init c =
    let a = c.args.accepted.accepted in
    tally-none c.tasks-tasks.result.now (omega (arith, ap length c.tasks-tasks.ensures, tasks-long _ a, a.few))

pub tick-requires : goal.tick-requires
tick-requires c = may-tick _ c.args.accepted.accepted _ _ c.loop-t.t c.tasks-tasks.ensures (omega arith) c.loop-t.invariant

pub loop-t-2-init : goal.loop-t-2-init
loop-t-2-init c =
    let e : c.loop-t.t ≡ c.min-start.result = omega arith in
    (rw e at c.loop-t.invariant, rw c.new-draft.ensures (page-start _ c.args.from _ _ c.min-start.ensures c.min-end.ensures))

pub tick-runs-requires : goal.tick-runs-requires
tick-runs-requires c = may-tick _ c.args.accepted.accepted _ _ c.loop-t-2.t c.tasks-tasks.ensures (omega arith) c.loop-t-2.invariant.0

pub write_tick_line-requires-clause-there : goal.write_tick_line-requires-clause-there
write_tick_line-requires-clause-there c = rw (c.tick-runs.ensures.runs, c.tasks-tasks.ensures) (runner-there _ c.args.accepted.accepted c.loop-t-2.t)

pub write_tick_line-requires-clause-room : goal.write_tick_line-requires-clause-room
write_tick_line-requires-clause-room c =
    rw (c.tick-runs.ensures.runs, c.tasks-tasks.ensures) (line-room _ c.args.accepted.accepted _ c.args.from c.loop-t-2.t _ (omega arith) c.loop-t-2.invariant.1)

pub loop-t-2-preserved : goal.loop-t-2-preserved
loop-t-2-preserved c = (
  c.tick-runs.ensures.state,
  page-next _ _ _ _ c.loop-t-2.t _ (omega arith) c.loop-t-2.invariant.1 (rw (c.tick-runs.ensures.runs, c.tasks-tasks.ensures) at c.write_tick_line.ensures),
)

pub returns : goal.returns
returns c =
    let e = page-end _ _ _ c.loop-t-2.t _ (omega arith) c.loop-t-2.invariant.1 in
    record { delivered = rw (c.text.ensures, e) at c.deliver.ensures; short = page-short _ c.args.accepted.accepted c.args.from }
