-- `hasten::hasten` meets its contract: the time that the loop has come to is below every solution.
use Rattle.std.proofs.Common.{◌≤◌, length}
use Rattle.search.specs.Demand.{demand_of}
use Rattle.search.specs.Terms.{term_in}
use Rattle.search.specs.Least.{Reached}
use Rattle.search.proofs.hasten.hasten.Given as goal

abbrev pub invariant-loop : goal.invariant-loop
invariant-loop l =
    Reached (demand_of l.own (term_in l.terms) (length l.terms)) l.r × (l.r ≤ 8600000000000000000) × (l.reach ≤ 17200000000000000000)
