-- The tasks passed have no work.
use Rattle.std.proofs.Common.{◌≡◌, sym, arith}
use Rattle.replay.proofs.LoopLaws.{run-here, run_none, busy-here, busy_none}
use Rattle.replay.proofs.run_highest.Goals as goal

pub returns-then-work-gt0-clause-ran : goal.returns-then-work-gt0-clause-ran
returns-then-work-gt0-clause-ran c =
    rw (← c.loop-j.invariant.0) (run-here c.args.n c.loop-j.j c.loop-j.works c.loop-j.invariant.1 (omega arith) (omega arith))

pub returns-then-work-gt0-clause-highest : goal.returns-then-work-gt0-clause-highest
returns-then-work-gt0-clause-highest c =
    rw (← c.loop-j.invariant.0) (busy-here c.args.n c.loop-j.j c.loop-j.works c.loop-j.invariant.1 (omega arith) (omega arith))

pub returns-clause-ran : goal.returns-clause-ran
returns-clause-ran c =
    let e : c.loop-j.j ≡ c.args.n = omega arith in
    rw (← c.loop-j.invariant.0) (sym (run_none _ _ (rw e at c.loop-j.invariant.1)))

pub returns-clause-highest : goal.returns-clause-highest
returns-clause-highest c =
    let e : c.loop-j.j ≡ c.args.n = omega arith in
    rw (← c.loop-j.invariant.0) (busy_none _ _ (rw e at c.loop-j.invariant.1))
