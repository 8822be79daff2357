-- The answers for all tasks of a table.
use Rattle.std.specs.Prelude.{ℕ, ◌+◌, ◌≡◌, ◌<◌, List, [], ◌∷◌, map, replicate, length, slice_index_or, Some}
use Rattle.analysis.specs.declared.rows.Row.{Row}
use Rattle.search.specs.declared.demand.Term.{Term}
use Rattle.search.specs.declared.demand.Response.{Response}
use Rattle.search.specs.declared.demand.Response.TheVariants.{Unschedulable}
use Rattle.search.specs.Least.{sooner, later, NoLater}
use Rattle.search.specs.declared.response.Count.{Count}
use Rattle.search.specs.Counts.{Started}
use Rattle.table.specs.Tasks.{limit_of}
use Rattle.table.specs.declared.accesses.Access.{Access}
use Rattle.table.specs.declared.Table.{Table}
use Rattle.table.specs.Tables.{at}
use Rattle.analysis.specs.declared.costs.Single.{Single}
use Rattle.analysis.specs.declared.costs.Single.TheVariants.{None, EcbOnly, UcbOnly, UcbUnion, EcbUnion}
use Rattle.analysis.specs.Costs.{term_with}
use Rattle.analysis.specs.declared.Method.{Method}
use Rattle.analysis.specs.Analysis.{methods, method_of, least_under, counted_response, response_of}
use Rattle.analysis.specs.Responses.{IsResponse}
use Rattle.analysis.specs.declared.rows.Answers.{Answers}

-- the responses of the task at i under each method; and a row without a response, which stands past the last task
abbrev pub row_of : Table → ℕ → Row
row_of table i = record { responses = map (λ m. response_of table m i) methods }

abbrev pub no_row : Row
no_row = record { responses = replicate 6 Unschedulable }

-- the answer of a row of these, at a place in it
abbrev pub answer_at : List Row → ℕ → ℕ → Response
answer_at rows i n = slice_index_or (slice_index_or rows i no_row).responses n Unschedulable

-- rows that hold the responses of every task, each under the method whose number is its place in its row
abbrev pub AreResponses : Table → List Row → Type 0
AreResponses table rows = (i : ℕ) → i < table.count → (n : ℕ) (m : Method) → method_of n ≡ Some m → IsResponse table m i (answer_at rows i n)

-- ---- the answers of one row

abbrev pub answer_in : Single → Answers → Response
answer_in None s = s.none
answer_in EcbOnly s = s.ecb_only
answer_in UcbOnly s = s.ucb_only
answer_in UcbUnion s = s.ucb_union
answer_in EcbUnion s = s.ecb_union

-- those of the task at i
pub record Answered (table : Table) (i : ℕ) (s : Answers) : Type 0 where
  pub each : (m : Single) → answer_in m s ≡ counted_response table m i

-- the method from which one goes on, which never asks for more
abbrev pub cheaper : Single → Single
cheaper None = None
cheaper EcbOnly = UcbUnion
cheaper UcbOnly = EcbUnion
cheaper UcbUnion = None
cheaper EcbUnion = None

-- no answer is sooner than that of the cheaper method
pub record NoneSoonerThanCheaper (s : Answers) : Type 0 where
  pub each : (m : Single) → NoLater (answer_in (cheaper m) s) (answer_in m s)

-- the later of these answers and of those while an access blocks the task at i
pub record WithOne (table : Table) (a : Access) (i : ℕ) (s r : Answers) : Type 0 where
  pub each : (m : Single) → answer_in m r ≡ later (answer_in m s) (least_under table a m i (limit_of (at table i)))

-- the row that they make, with combined
abbrev pub row_told : Answers → List Response
row_told s = s.none ∷ s.ecb_only ∷ s.ucb_only ∷ s.ucb_union ∷ s.ecb_union ∷ sooner s.ucb_union s.ecb_union ∷ []

-- ---- what is carried on

-- what the task at j asks for without reloads
abbrev pub plain_of : Table → ℕ → Term
plain_of table j = term_with table j 0

-- what the search for the task above i leaves
pub record CarriedCounts (table : Table) (i : ℕ) (counts : List Count) : Type 0 where
  pub long : length counts ≡ 32
  pub above : (k : ℕ) → i ≡ k + 1 → Started (at table k).work.0 (plain_of table) k counts
