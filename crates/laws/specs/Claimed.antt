-- What is found of claimed responses, beside our own.
use Rattle.std.specs.Prelude.{ℕ, ◌≤◌, ◌≡◌, length}
use Rattle.cache.specs.declared.units.Ticks.{Ticks}
use Rattle.search.specs.declared.demand.Response.{Response}
use Rattle.search.specs.declared.demand.Response.TheVariants.{Within}
use Rattle.table.specs.Accesses.{blocking}
use Rattle.table.specs.declared.Table.{Table}
use Rattle.table.specs.Tables.{accesses_of}
use Rattle.analysis.specs.declared.Method.{Method}
use Rattle.analysis.specs.Analysis.{response_of}
use Rattle.claims.specs.declared.finding.Finding.{Finding}
use Rattle.claims.specs.declared.finding.Finding.TheVariants.{Bad, Fine}
use Rattle.claims.specs.Findings.{finding_of}
use Rattle.laws.specs.declared.claimed.Judged.{Judged}

-- the finding and our response; where a number is fine, we have a response, and it is no larger
pub record JudgedBesideOurs (table : Table) (m : Method) (i : ℕ) (claim : Response) (r : Judged) : Type 0 where
  pub found_is : r.found ≡ finding_of table m i claim
  pub ours_is : r.ours ≡ response_of table m i
  pub fine-is-safe : (R : Ticks) → claim ≡ Within R → r.found ≡ Fine → (S : Ticks) × (r.ours ≡ Within S) × (S.0 ≤ R.0)

-- what is found of our own response: it is not bad, and where it is a number and at most one access may block the task, fine
pub record FoundOfOurs (table : Table) (m : Method) (i : ℕ) (f : Finding) : Type 0 where
  pub found_is : f ≡ finding_of table m i (response_of table m i)
  pub not-bad : f ≡ Bad → ⊥
  pub fine : (R : Ticks) → response_of table m i ≡ Within R → length (blocking i (accesses_of table)) ≤ 1 → f ≡ Fine
