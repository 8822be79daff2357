-- `hasten::leap` meets its contract: no solution is below the best time so far, and the windows of the rounds before v are added up.
use Rattle.std.proofs.Common.{◌≡◌, ◌⊎◌, ◌-◌, ◌≤◌, length}
use Rattle.search.specs.Demand.{demand_of}
use Rattle.search.specs.Terms.{term_in}
use Rattle.search.specs.Least.{Reached}
use Rattle.search.specs.Rounds.{IsStep}
use Rattle.search.proofs.LeapLaws.{Ahead}
use Rattle.search.proofs.hasten.leap.Given as goal

abbrev pub invariant-loop-step : goal.invariant-loop-step
invariant-loop-step l =
    (IsStep l.step ⊎ (l.step ≡ 256)) × (l.next ≤ l.best) × (l.best ≤ 8600000000000000000)
    × Reached (demand_of l.own (term_in l.terms) (length l.terms)) l.best

abbrev pub decreases-loop-step : goal.decreases-loop-step
decreases-loop-step l = 257 - l.step

abbrev pub invariant-loop-v : goal.invariant-loop-v
invariant-loop-v l = Ahead (term_in l.terms) (length l.terms) l.rounds.classes l.step l.r l.v l.ahead
