-- The same of texts.
use Rattle.std.specs.Prelude.{ℕ, ◌≡◌, List, Result, Ok}
use Rattle.cache.specs.declared.units.Ticks.{Ticks}
use Rattle.search.specs.declared.demand.Response.{Response}
use Rattle.search.specs.declared.demand.Response.TheVariants.{Within}
use Rattle.texts.specs.declared.refusals.Refusal.{Refusal}
use Rattle.table.specs.declared.Table.{Table}
use Rattle.analysis.specs.Analysis.{numbered}
use Rattle.crpd.specs.Meanings.{ReadsAs}
use Rattle.every_run.specs.Bounds.{BoundsRuns}

-- of an accepted text: where the answer for the task at i is a response R, it bounds every job of the task in every run of the text's table
unfoldable pub BoundsEveryRun : List ℕ → ℕ → ℕ → Result Response Refusal → Type 0
BoundsEveryRun text m i answer = (table : Table) → ReadsAs text table → (R : Ticks) → answer ≡ Ok (Within R) → BoundsRuns table (numbered m) i R.0
