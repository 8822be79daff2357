-- The sum is the demand under the terms so far.
use Rattle.std.proofs.Common.{◌≡◌, take}
use Rattle.search.specs.Terms.{term_in}
use Rattle.laws.specs.Equation.{demand_over}
use Rattle.laws.proofs.orders.demand_in_order.Given as goal

abbrev pub invariant-loop-j : goal.invariant-loop-j
invariant-loop-j l = l.demand ≡ demand_over l.fn.own.0 (term_in l.terms) (take l.j-index l.order) l.r
