-- The smallest solution of an equation.
use Rattle.std.specs.Prelude.{ℕ, ◌≤◌, ◌≡◌}
use Rattle.cache.specs.declared.units.Ticks.{Ticks}
use Rattle.search.specs.declared.demand.Response.{Response}
use Rattle.search.specs.declared.demand.Response.TheVariants.{Within}
use Rattle.search.specs.Least.{LeastWithin}

-- r is the smallest whole number up to the limit that equals its demand, or says that there is none; no other answer is so; and where the demand never falls, and that
-- of some number up to the limit is no larger than the number, there is a solution, which is no larger either
pub record IsSmallest (demand : ℕ → ℕ) (limit : ℕ) (r : Response) : Type 0 where
  pub means : LeastWithin demand limit r
  pub only : (s : Response) → LeastWithin demand limit s → s ≡ r
  pub under : ((a b : ℕ) → a ≤ b → demand a ≤ demand b) → (time : ℕ) → time ≤ limit → demand time ≤ time → (R : Ticks) × (r ≡ Within R) × (R.0 ≤ time)
