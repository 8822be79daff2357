-- The bound before the end is the next end, or the time before the end is the last that is exceeded.
use Rattle.std.proofs.Common.{arith}
use Rattle.edf.specs.Bound.{LastOverrun}
use Rattle.edf.proofs.BoundLaws.{number-is, none-is, in_time-next}
use Rattle.edf.proofs.bound.last_overrun.Goals as goal

pub loop-end-preserved : goal.loop-end-preserved
loop-end-preserved c =
    let n = number-is _ _ _ c.in-Some.ensures in
    (omega (arith, n), in_time-next c.args.tasks.now c.loop-end.end c.args.end c.in-Some.bound c.requires.0 (omega arith) n.0 c.loop-end.invariant.1)

pub returns-in-None : goal.returns-in-None
unfolding LastOverrun
returns-in-None c =
    (omega arith, omega arith, none-is _ _ c.in-None.ensures, λ x l m. c.loop-end.invariant.1 x (omega arith) m)

pub returns : goal.returns
unfolding LastOverrun
returns c = λ x l m. c.loop-end.invariant.1 x (omega arith) m
