-- The figures that were worked out by hand, of the tables that they are about.
use Rattle.std.specs.Prelude.{ℕ, ◌≡◌, [], map, All}
use Rattle.search.specs.declared.demand.Response.{Response}
use Rattle.table.specs.declared.tasks.Task.{Task}
use Rattle.table.specs.declared.Table.{Table}
use Rattle.table.specs.Tables.{ways_in, tasks_of, accesses_of}
use Rattle.analysis.specs.declared.costs.Single.{Single}
use Rattle.analysis.specs.declared.costs.Charge.{Charge}
use Rattle.analysis.specs.declared.Method.{Method}
use Rattle.analysis.specs.Figures.{Figure, figures, ChargeFigure, charge_figures}
use Rattle.claims.specs.declared.finding.Finding.{Finding}
use Rattle.claims.specs.Figures.{ClaimFigure, claim_figures}

-- a task without its name
abbrev pub unnamed : Task → Task
unnamed t = record t { name = record { bytes = [] } }

-- the table of a figure, whatever the tasks are called
pub record IsTableOf (figure table : Table) : Type 0 where
  pub ways : ways_in table ≡ ways_in figure
  pub brt : table.brt ≡ figure.brt
  pub tasks : map unnamed (tasks_of table) ≡ tasks_of figure
  pub accesses : accesses_of table ≡ accesses_of figure

-- of all figures those of this table, method and position have the answer r
abbrev pub IsFigured : Table → Method → ℕ → Response → Type 0
IsFigured table m i r = All (λ (f : Figure). IsTableOf f.table table → m ≡ f.method → i ≡ f.position → r ≡ f.answer) figures

-- and those of an activation of j have this charge
abbrev pub IsChargeFigured : Table → Single → ℕ → ℕ → Charge → Type 0
IsChargeFigured table m i j g =
    All (λ (f : ChargeFigure). IsTableOf f.table table → m ≡ f.method → i ≡ f.position → j ≡ f.preempting → g ≡ f.charge) charge_figures

-- and those of a claim have this finding
abbrev pub IsFindingFigured : Table → Method → ℕ → Response → Finding → Type 0
IsFindingFigured table m i claim found =
    All (λ (f : ClaimFigure). IsTableOf f.table table → m ≡ f.method → i ≡ f.position → claim ≡ f.claim → found ≡ f.finding) claim_figures
