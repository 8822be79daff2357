-- What is said of a claim: whether a claimed response is safe by the equation.
use Rattle.std.specs.Prelude.{ℕ, ◌≡◌, ◌≤◌, Bool, ◌&&◌, if◌then◌else◌, nat_le, length}
use Rattle.cache.specs.declared.units.Ticks.{Ticks}
use Rattle.search.specs.declared.demand.Response.{Response}
use Rattle.search.specs.declared.demand.Response.TheVariants.{Within, Unschedulable}
use Rattle.table.specs.Tasks.{limit_of}
use Rattle.table.specs.Accesses.{blocking}
use Rattle.table.specs.declared.Table.{Table}
use Rattle.table.specs.Tables.{at, accesses_of}
use Rattle.analysis.specs.declared.costs.Single.{Single}
use Rattle.analysis.specs.declared.costs.Single.TheVariants.{UcbUnion, EcbUnion}
use Rattle.analysis.specs.declared.Method.{Method}
use Rattle.analysis.specs.declared.Method.TheVariants.{Of, Combined}
use Rattle.analysis.specs.Analysis.{response_of}
use Rattle.analysis.specs.Covering.{is_covered}
use Rattle.claims.specs.declared.finding.Finding.{Finding}
use Rattle.claims.specs.declared.finding.Finding.TheVariants.{Bad, Open, Fine}

-- a claimed number is within D - J
abbrev pub is_within_limit : Table → ℕ → ℕ → Bool
is_within_limit table i R = nat_le R (limit_of (at table i))

-- two or more accesses may block the task
abbrev pub has_several_blockers : Table → ℕ → Bool
has_several_blockers table i = nat_le 2 (length (blocking i (accesses_of table)))

-- under a method that counts: a number is fine where it is within D - J and its demand is no larger than itself, whatever may block the task; one that is not
-- fine is open where it is within D - J and several accesses may block the task, and else bad; no response is open
unfoldable pub finding_under : Table → Single → ℕ → Response → Finding
finding_under table m i (Within R) =
    if is_within_limit table i R.0 && is_covered table m i R.0 then Fine
    else if is_within_limit table i R.0 && has_several_blockers table i then Open
    else Bad
finding_under table m i Unschedulable = Open

-- what either of two methods finds fine is fine, what both find bad is bad, and all else is open
abbrev pub by_either : Finding → Finding → Finding
by_either Fine b = Fine
by_either Open Fine = Fine
by_either Open Open = Open
by_either Open Bad = Open
by_either Bad Fine = Fine
by_either Bad Open = Open
by_either Bad Bad = Bad

-- under combined by either of the unions
unfoldable pub finding_of : Table → Method → ℕ → Response → Finding
finding_of table (Of m) i claim = finding_under table m i claim
finding_of table Combined i claim = by_either (finding_under table UcbUnion i claim) (finding_under table EcbUnion i claim)

-- ---- what it means, beside our own response

-- a number that is fine is never below our response, so that there is one; our own number is never bad, and fine where at most one access may block the task
pub record FindingMeans (table : Table) (m : Method) (i : ℕ) (claim : Response) (f : Finding) : Type 0 where
  pub fine-is-safe : (R : Ticks) → claim ≡ Within R → f ≡ Fine → (S : Ticks) × (response_of table m i ≡ Within S) × (S.0 ≤ R.0)
  pub own-not-bad : (R : Ticks) → claim ≡ Within R → response_of table m i ≡ claim → f ≡ Bad → ⊥
  pub own-fine : (R : Ticks) → claim ≡ Within R → response_of table m i ≡ claim → length (blocking i (accesses_of table)) ≤ 1 → f ≡ Fine
