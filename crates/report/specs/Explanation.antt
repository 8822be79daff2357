-- The explanation of a figure as bytes.
use Rattle.std.specs.Prelude.{ℕ, ◌+◌, List, [], ◌∷◌, ◌++◌, flat_map, codes}
use Rattle.search.specs.declared.demand.Response.{Response}
use Rattle.search.specs.declared.demand.Response.TheVariants.{Within, Unschedulable}
use Rattle.search.specs.Positions.{hp}
use Rattle.search.specs.Demand.{ceil}
use Rattle.table.specs.declared.tasks.Task.{Task}
use Rattle.table.specs.Tasks.{name_text, limit_of}
use Rattle.table.specs.declared.accesses.Access.{Access}
use Rattle.table.specs.declared.Table.{Table}
use Rattle.table.specs.Tables.{at}
use Rattle.analysis.specs.declared.costs.Charge.{Charge}
use Rattle.analysis.specs.declared.costs.Charge.TheVariants.{Victim, NoVictim}
use Rattle.analysis.specs.declared.costs.Single.{Single}
use Rattle.analysis.specs.declared.costs.Single.TheVariants.{None, EcbOnly, UcbOnly, UcbUnion, EcbUnion}
use Rattle.analysis.specs.Costs.{reloads_in, charge_under}
use Rattle.analysis.specs.declared.Method.{Method}
use Rattle.analysis.specs.declared.need.Need.{Need}
use Rattle.analysis.specs.Needs.{need_of}
use Rattle.writing.specs.Text.{spelled, line_of}

-- what is needed, or `beyond`
abbrev pub needed_text : Response → List ℕ
needed_text (Within R) = spelled R.0
needed_text Unschedulable = codes "beyond"

-- the number by which a caller names a method that counts
abbrev pub method_number : Single → ℕ
method_number None = 0
method_number EcbOnly = 1
method_number UcbOnly = 2
method_number UcbUnion = 3
method_number EcbUnion = 4

-- the first line: `X`, name, method explained, need, D − J, C, and for how long an access blocks the task, 0 where none does
unfoldable pub need_line : Task → Need → List ℕ
need_line t need =
    line_of (codes "X")
    (name_text t.name
    ∷ spelled (method_number need.method)
    ∷ needed_text need.time
    ∷ spelled (limit_of t)
    ∷ spelled t.work.0
    ∷ spelled need.blocker.lasts.0
    ∷ [])

-- how often a task is activated in R ticks
abbrev pub activations_in : ℕ → Task → ℕ
activations_in R t = ceil (R + t.jitter.0) t.period.0

-- the name of the task at a position
abbrev pub name_at : Table → ℕ → List ℕ
name_at table k = name_text (at table k).name

-- the name of the task that a charge hits, or `-` where it hits no single one
abbrev pub victim_text : Table → Charge → List ℕ
victim_text table (Victim h) = name_at table h.victim
victim_text table (NoVictim n) = codes "-"

-- the line of the task at j, above: `I`, name, activations in R ticks, and the reloads that each is charged with their victim
unfoldable pub reason_line : Table → ℕ → ℕ → Charge → List ℕ
reason_line table R j charge =
    line_of (codes "I") (name_at table j ∷ spelled (activations_in R (at table j)) ∷ spelled (reloads_in charge) ∷ victim_text table charge ∷ [])

-- the lines of the tasks above i under method m while an access blocks i, from position 0 down; none where the need is beyond
abbrev pub reason_lines : Table → Access → Single → ℕ → Response → List ℕ
reason_lines table a m i (Within R) = flat_map (λ j. reason_line table R.0 j (charge_under table a m i j)) (hp i)
reason_lines table a m i Unschedulable = []

-- the explanation of what the task at i needs
abbrev pub explanation_by : Table → ℕ → Need → List ℕ
explanation_by table i need = need_line (at table i) need ++ reason_lines table need.blocker need.method i need.time

-- the explanation of what method m answers for the task at i
unfoldable pub explanation_of : Table → Method → ℕ → List ℕ
explanation_of table m i = explanation_by table i (need_of table m i)
