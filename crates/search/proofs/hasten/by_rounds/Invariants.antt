-- `hasten::by_rounds` meets its contract: the time that the loop has come to is below every solution.
use Rattle.std.proofs.Common.{◌+◌, ◌-◌, ◌≤◌, length}
use Rattle.search.specs.Demand.{demand_of}
use Rattle.search.specs.Terms.{term_in}
use Rattle.search.specs.Least.{Reached}
use Rattle.search.proofs.hasten.by_rounds.Given as goal

abbrev pub invariant-loop-r : goal.invariant-loop-r
invariant-loop-r l =
    Reached (demand_of l.own (term_in l.terms) (length l.terms)) l.r × (l.reach ≤ 17200000000000000000)

abbrev pub decreases-loop-r : goal.decreases-loop-r
decreases-loop-r l = l.limit + 1 - l.r
