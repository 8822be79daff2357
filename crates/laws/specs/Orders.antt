-- Tables that are no harder than others.
use Rattle.std.specs.Prelude.{ℕ, ◌≤◌, ◌<◌, ◌^◌, ◌≡◌, List, length}
use Rattle.cache.specs.declared.units.Ticks.{Ticks}
use Rattle.search.specs.declared.demand.Response.{Response}
use Rattle.search.specs.declared.demand.Response.TheVariants.{Within}
use Rattle.search.specs.declared.demand.Term.{Term}
use Rattle.search.specs.Demand.{demand_of}
use Rattle.search.specs.Least.{NoLater}
use Rattle.search.specs.Terms.{term_in, InRange}
use Rattle.table.specs.declared.tasks.Task.{Task}
use Rattle.table.specs.declared.Table.{Table}
use Rattle.analysis.specs.Harder.{Harder, HarderBy}
use Rattle.analysis.specs.Same.{SameDownTo}
use Rattle.analysis.specs.declared.Method.{Method}
use Rattle.analysis.specs.Analysis.{response_of}
use Rattle.laws.specs.Added.{place_after, TaskAdded}
use Rattle.laws.specs.declared.orders.TwoResponses.{TwoResponses}

-- where the second has a response, the first has one, and it is no larger
abbrev pub RespondsBy : Response → Response → Type 0
RespondsBy first second = (R : Ticks) → second ≡ Within R → (r : Ticks) × (first ≡ Within r) × (r.0 ≤ R.0)

-- the two responses; where the tables are the same as far as i, they are the same; and where the second table is harder, position by position, or as far as i with
-- each task at a place of its own, the first table responds by the second's response. Where the second has a task more, the first's response is no later, and the same
-- for a task above the one that is new
pub record EasierRespondsFirst (first : Table) (i : ℕ) (second : Table) (k : ℕ) (m : Method) (r : TwoResponses) : Type 0 where
  pub first_is : r.first ≡ response_of first m i
  pub second_is : r.second ≡ response_of second m k
  pub same : SameDownTo i first second → i ≡ k → r.first ≡ r.second
  pub harder : Harder first second → i ≡ k → RespondsBy r.first r.second
  pub harder_by : (place : ℕ → ℕ) → HarderBy place i first second → place i ≡ k → RespondsBy r.first r.second
  pub added : (p : ℕ) (t : Task) → TaskAdded p t first second → place_after p i ≡ k → NoLater r.first r.second
  pub above : (p : ℕ) (t : Task) → TaskAdded p t first second → i < p → i ≡ k → r.first ≡ r.second

-- what a sum of works asks for: terms whose work in r ticks can be told, and 64 bits that hold the demand
pub record Addable (own : ℕ) (terms : List Term) (r : ℕ) : Type 0 where
  pub time : r ≤ 250000000
  pub ranged : (j : ℕ) → j < length terms → InRange (term_in terms j)
  pub fits : demand_of own (term_in terms) (length terms) r < 2 ^ 64
