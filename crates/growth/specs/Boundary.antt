-- How much growth is left, in words of tables.
use Rattle.std.specs.Prelude.{ℕ, ◌≤◌, ◌<◌, ◌≡◌, length}
use Rattle.cache.specs.declared.units.Ticks.{Ticks}
use Rattle.search.specs.declared.demand.Response.TheVariants.{Within}
use Rattle.table.specs.declared.Table.{Table}
use Rattle.table_text.specs.TableText.{table_text}
use Rattle.analysis.specs.declared.Method.{Method}
use Rattle.analysis.specs.Analysis.{response_of}
use Rattle.growth.specs.Scaling.{scaled_by, FitsBy}

-- scaled by k thousandths no C of the table is above the longest, its text is no longer than one may be, and every task has a response
pub record PassesBy (table : Table) (m : Method) (k : ℕ) : Type 0 where
  pub fits : FitsBy k table
  pub short : length (table_text (scaled_by k table)) ≤ 16384
  pub responds : (i : ℕ) → i < table.count → (R : Ticks) × (response_of (scaled_by k table) m i ≡ Within R)

-- of the k from 1 to 4,000 the table passes by just those up to r
pub record IsBoundary (table : Table) (m : Method) (r : ℕ) : Type 0 where
  pub most : r ≤ 4000
  pub pass : (k : ℕ) → 1 ≤ k → k ≤ r → PassesBy table m k
  pub fail : (k : ℕ) → r < k → k ≤ 4000 → PassesBy table m k → ⊥

-- r is so, and no other number is
pub record IsGrowth (table : Table) (m : Method) (r : ℕ) : Type 0 where
  pub boundary : IsBoundary table m r
  pub only : (s : ℕ) → IsBoundary table m s → s ≡ r
