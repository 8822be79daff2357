-- Worked figures: what is found of claims. proofs/Figures.antt has that they are what the definitions say.
use Rattle.std.specs.Prelude.{ℕ, List, [], ◌∷◌, slice_index_or}
use Rattle.search.specs.declared.demand.Response.{Response}
use Rattle.search.specs.declared.demand.Response.TheVariants.{Within, Unschedulable}
use Rattle.table.specs.declared.Table.{Table}
use Rattle.analysis.specs.declared.Method.{Method}
use Rattle.analysis.specs.declared.Method.TheVariants.{Combined}
use Rattle.analysis.specs.Analysis.{methods}
use Rattle.analysis.specs.Figures.{ticks, task, access, table_with, P}
use Rattle.claims.specs.declared.finding.Finding.{Finding}
use Rattle.claims.specs.declared.finding.Finding.TheVariants.{Bad, Open, Fine}

-- two accesses may block b: our own number is that of the first, and within it the second asks for more than the number
abbrev pub Y : Table
Y =
    table_with 4 1 (task 1 5 5 0 0x0 0xf ∷ task 1 20 20 0 0x0 0x0 ∷ task 1 100 100 0 0x0 0x0 ∷ [])
    (access 2 1 4 0x0 ∷ access 2 1 1 0x3 ∷ [])

-- of the claim for the task at `position` of `table` under `method` this is found
pub record ClaimFigure : Type 0 where
  pub table : Table
  pub method : Method
  pub position : ℕ
  pub claim : Response
  pub finding : Finding

abbrev finds : Table → ℕ → ℕ → ℕ → Finding → ClaimFigure
finds table m i R f = record { table = table; method = slice_index_or methods m Combined; position = i; claim = Within (ticks R); finding = f }

abbrev finds_of_none : Table → ℕ → ℕ → ClaimFigure
finds_of_none table m i = record { table = table; method = slice_index_or methods m Combined; position = i; claim = Unschedulable; finding = Open }

abbrev pub claim_figures : List ClaimFigure
claim_figures =
    finds (P 0 8 0) 0 1 5 Fine ∷ finds (P 0 8 0) 0 1 6 Bad ∷ finds (P 0 8 0) 0 1 7 Fine ∷ finds (P 0 8 0) 0 1 4 Bad ∷ finds (P 0 8 0) 0 1 9 Bad
    ∷ finds (P 0 8 2) 0 1 5 Fine ∷ finds (P 0 8 2) 0 1 7 Bad ∷ finds_of_none (P 0 8 0) 0 1
    ∷ finds Y 2 1 7 Open ∷ finds Y 3 1 7 Open ∷ finds Y 4 1 7 Open ∷ finds Y 5 1 7 Open ∷ finds Y 0 1 7 Fine ∷ finds Y 2 1 21 Bad
    ∷ []
