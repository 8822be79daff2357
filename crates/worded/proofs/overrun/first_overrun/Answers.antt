-- No later than the common multiple, which is no longer than the longest time.
use Rattle.std.proofs.Common.{◌≤◌, ℕ, List, Option, Some, None, IfSome, arith}
use Rattle.cache.specs.declared.units.Ticks.{Ticks}
use Rattle.cache.specs.declared.units.TheConstants.Ticks.{LONGEST}
use Rattle.edf.specs.declared.charges.ChargedTask.{ChargedTask}
use Rattle.edf.specs.Bound.{FirstOverrun}
use Rattle.edf.proofs.HyperperiodLaws.{posed}
use Rattle.worded.proofs.overrun.first_overrun.Goals as goal

near : (ts : List ChargedTask) (h : ℕ) (o : Option Ticks) → FirstOverrun ts h o → h ≤ LONGEST → IfSome o (λ x. x.0 ≤ LONGEST)
unfolding FirstOverrun
near ts h None first most = tt
near ts h (Some x) first most = omega (arith, first.0, most)

pub first_overrun-requires : goal.first_overrun-requires
first_overrun-requires c = posed c.args.tasks.now c.in_ok-h.h c.requires c.in_ok-h.ensures.value

pub returns : goal.returns
returns c = near _ _ _ c.first_overrun.ensures (posed c.args.tasks.now c.in_ok-h.h c.requires c.in_ok-h.ensures.value).near
