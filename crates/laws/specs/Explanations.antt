-- What an explanation tells is the response, where there is one, and rests on nothing that stands below its task but the accesses that may block it.
use Rattle.std.specs.Prelude.{ℕ, ◌≤◌, ◌<◌, ◌≡◌, List}
use Rattle.cache.specs.declared.units.Ticks.{Ticks}
use Rattle.search.specs.declared.demand.Response.TheVariants.{Within}
use Rattle.table.specs.Tasks.{limit_of}
use Rattle.table.specs.declared.tasks.Task.{Task}
use Rattle.table.specs.declared.Table.{Table}
use Rattle.table.specs.Tables.{at}
use Rattle.analysis.specs.declared.Method.{Method}
use Rattle.analysis.specs.Analysis.{response_of}
use Rattle.analysis.specs.Needs.{need_of}
use Rattle.analysis.specs.Same.{unowned_need, SameDownTo, SameNamesDownTo}
use Rattle.crpd.specs.Operations.{WritesText, explanation_to}
use Rattle.report.specs.declared.explanation.TheConstants.{LONGEST_EXPLANATION}
use Rattle.crpd.specs.Meanings.{ReadsAs}
use Rattle.laws.specs.Added.{TaskAdded, LineAdded}
use Rattle.laws.specs.Calls.{CallsAgree, SameRoom}
use Rattle.laws.specs.declared.explanations.NeedAndResponse.{NeedAndResponse}
use Rattle.laws.specs.declared.explanations.TwoNeeds.{TwoNeeds}
use Rattle.laws.specs.declared.explanations.TwoExplanations.{TwoExplanations}

-- the need and the response; where there is a response, it is the need, and within D - J; and a need within D - J is the response
pub record IsNeededAsAnswered (table : Table) (m : Method) (i : ℕ) (r : NeedAndResponse) : Type 0 where
  pub need_is : r.need ≡ need_of table m i
  pub response_is : r.response ≡ response_of table m i
  pub needed : (R : Ticks) → r.response ≡ Within R → (r.need.time ≡ Within R) × (R.0 ≤ limit_of (at table i))
  pub answered : (R : Ticks) → r.need.time ≡ Within R → R.0 ≤ limit_of (at table i) → r.response ≡ Within R

-- the two needs; where the tables are the same as far as i, so are the needs, whosever the access is that blocks; and so they are for a task above one that is new
pub record NeededAlike (first second : Table) (m : Method) (i : ℕ) (r : TwoNeeds) : Type 0 where
  pub first_is : r.first ≡ need_of first m i
  pub second_is : r.second ≡ need_of second m i
  pub same : SameDownTo i first second → unowned_need r.first ≡ unowned_need r.second
  pub above : (p : ℕ) (t : Task) → TaskAdded p t first second → i < p → unowned_need r.first ≡ unowned_need r.second

-- the two explanations; where both texts are accepted and their tables are the same as far as i, down to the names of the tasks whose accesses may block it, the same
-- lines are written of both, if there is room for them; and so they are for a task above a line that the second has more
pub record ExplainedAlike (first second : List ℕ) (m i : ℕ) (before after before' after' : List ℕ) (r : TwoExplanations) : Type 0 where
  pub first_is : WritesText LONGEST_EXPLANATION (explanation_to first m i) before r.first after
  pub second_is : WritesText LONGEST_EXPLANATION (explanation_to second m i) before' r.second after'
  pub same : (a b : Table) → ReadsAs first a → ReadsAs second b → SameNamesDownTo i a b → SameRoom LONGEST_EXPLANATION before before' → CallsAgree r.first r.second before after before' after'
  pub above : (p : ℕ) (a b : Table) → ReadsAs first a → ReadsAs second b → LineAdded p first second → i < p
      → SameRoom LONGEST_EXPLANATION before before' → CallsAgree r.first r.second before after before' after'
