-- The loop walks up with the specification, and has the specification's tally.
use Rattle.std.proofs.Common.{arith}
use Rattle.replay.proofs.LoopLaws.{walk_start, walk-past, walk_ends, walk-on, tally-none}
use Rattle.replay.proofs.first_end.Goals as goal

pub loop-t-init : goal.loop-t-init
loop-t-init c = (tally-none c.args.tasks.now c.requires.few, walk_start _ _ _)

pub returns-then-work-works : goal.returns-then-work-works
returns-then-work-works c =
    let v = c.loop-t.invariant in
    walk_ends c.args.i _ _ c.args.tasks.now _ c.requires.there c.requires.runnable v.0 v.1 (omega arith) (omega arith)

pub tick-requires : goal.tick-requires
tick-requires c = record { few = c.requires.few; runnable = c.requires.runnable; near = omega (arith, c.requires.near); tallied = c.loop-t.invariant.0 }

pub loop-t-preserved : goal.loop-t-preserved
loop-t-preserved c =
    let v = c.loop-t.invariant in (
      c.tick.ensures.state,
      walk-on c.args.i _ _ c.args.tasks.now _ c.requires.there c.requires.runnable v.0 v.1 (omega arith) (omega arith),
    )

pub returns : goal.returns
returns c = walk-past _ _ _ _ c.loop-t.invariant.1 (omega arith)
