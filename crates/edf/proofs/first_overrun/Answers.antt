-- Half of the times that are left are cleared, or an earlier one is found.
use Rattle.std.proofs.Common.{◌≡◌, arith}
use Rattle.edf.proofs.VerdictLaws.{to-all, last-some, last-none, middle-before, in_time-joined, first-some, first-none}
use Rattle.edf.proofs.first_overrun.Goals as goal

pub returns-in_err-first : goal.returns-in_err-first
returns-in_err-first c =
    rw c.from_residual.ensures (first-none c.args.tasks.now c.args.h.0 (to-all c.args.tasks.now c.args.h.0 c.requires (last-none _ _ _ c.in_err-first.ensures)))

pub loop-clear-init : goal.loop-clear-init
loop-clear-init c = let p = last-some _ _ _ _ c.in_ok-first.ensures in (omega arith, omega (arith, p), p.2, λ x l m. absurd (omega arith))

pub last_overrun-requires-in-loop-clear : goal.last_overrun-requires-in-loop-clear
last_overrun-requires-in-loop-clear c =
    (c.requires.timed, omega (arith, middle-before c.loop-clear.clear c.loop-clear.first.0 c.loop-clear-test.true, c.loop-clear.invariant, c.requires.near))

pub loop-clear-smaller-in-Some : goal.loop-clear-smaller-in-Some
loop-clear-smaller-in-Some c =
    omega (arith, middle-before c.loop-clear.clear c.loop-clear.first.0 c.loop-clear-test.true, last-some _ _ _ _ c.in-Some.ensures)

pub loop-clear-preserved-in-Some : goal.loop-clear-preserved-in-Some
loop-clear-preserved-in-Some c =
    let v = c.loop-clear.invariant in
    let p = last-some _ _ _ _ c.in-Some.ensures in
    (p.0, omega (arith, middle-before c.loop-clear.clear c.loop-clear.first.0 c.loop-clear-test.true, p, v.1), p.2, v.3)

pub loop-clear-preserved : goal.loop-clear-preserved
loop-clear-preserved c =
    let v = c.loop-clear.invariant in
    (omega (arith, middle-before c.loop-clear.clear c.loop-clear.first.0 c.loop-clear-test.true), v.1, v.2, in_time-joined _ _ _ v.3 (last-none _ _ _ c.in-None.ensures))

pub returns : goal.returns
returns c =
    let v = c.loop-clear.invariant in
    let e : c.loop-clear.clear ≡ c.loop-clear.first.0 = omega (arith, v.0, c.loop-clear-test.false) in
    first-some c.args.tasks.now c.args.h.0 c.loop-clear.first v.1 v.2 (rw e at v.3)
