-- The rows of an accepted table's answers are what its report is made from.
use Rattle.std.proofs.Common.{ℕ, zero, suc, ◌<◌, ◌≤◌, arith, ◌≡◌, refl, ap, ◌∙◌, Bool, Ok, List, [], ◌∷◌, length, take, length-take-le, map, get_or}
use Rattle.std.proofs.Math.Seq.{get_or-take}
use Rattle.search.specs.declared.demand.Response.{Response}
use Rattle.search.specs.declared.demand.Response.TheVariants.{Within, Unschedulable}
use Rattle.analysis.specs.declared.rows.Row.{Row}
use Rattle.search.specs.Least.{AnswerInRange, sooner, later, latest_of}
use Rattle.search.proofs.LeastLaws.{least-in-range}
use Rattle.search.proofs.LaterLaws.{latest-front}
use Rattle.table.specs.declared.accesses.Access.{Access}
use Rattle.table.specs.Tasks.{limit_of}
use Rattle.table.specs.declared.Table.{Table}
use Rattle.table.specs.Tables.{at}
use Rattle.table.specs.Accepted.{AcceptedTable}
use Rattle.table.specs.Reading.{read_text}
use Rattle.search.proofs.FrontLaws.{front_at}
use Rattle.analysis.specs.Analysis.{blockers_of, least_under, counted_response, response_of, numbered}
use Rattle.analysis.specs.declared.Method.{Method}
use Rattle.analysis.specs.declared.Method.TheVariants.{Of, Combined}
use Rattle.analysis.specs.declared.costs.Single.{Single}
use Rattle.analysis.specs.declared.costs.Single.TheVariants.{UcbUnion, EcbUnion}
use Rattle.search.specs.Positions.{front}
use Rattle.analysis.specs.Rows.{row_of, no_row}
use Rattle.report.specs.VerdictRows.{blank_row, answer_under, answers_in}
use Rattle.report.specs.Rows.{Reportable}
use Rattle.report.specs.Report.{report_of, report_in}
use Rattle.report.proofs.Agree.{report-agrees}
use Rattle.report.specs.Verdicts.{every_verdict, verdicts_in, passes_to}
use Rattle.report.proofs.VerdictAgree.{verdicts-agree, each-verdict-agrees}

-- ---- no response is above the longest deadline

sooner-in-range : (a b : Response) → AnswerInRange a → AnswerInRange b → AnswerInRange (sooner a b)
sooner-in-range (Within a) (Within b) p q = omega arith
sooner-in-range (Within a) Unschedulable p q = p
sooner-in-range Unschedulable b p q = q

later-in-range : (a b : Response) → AnswerInRange a → AnswerInRange b → AnswerInRange (later a b)
later-in-range (Within a) (Within b) p q = omega arith
later-in-range (Within a) Unschedulable p q = q
later-in-range Unschedulable b p q = p

latest-in-range : (A : Access → Response) → ((a : Access) → AnswerInRange (A a)) → (l : List Access) → AnswerInRange (latest_of (map A l))
latest-in-range A p [] = omega arith
latest-in-range A p (a ∷ l) = rw (latest-front (A a) (map A l)) (later-in-range (A a) (latest_of (map A l)) (p a) (latest-in-range A p l))

module _ (table : Table) (accepted : AcceptedTable table) where
  answer-in-range : (m : Single) (i : ℕ) → i < table.count → AnswerInRange (counted_response table m i)
  unfolding counted_response
  answer-in-range m i h =
      let t = accepted.tasks i h in
      latest-in-range (λ a. least_under table a m i (limit_of (at table i)))
      (λ a. least-in-range _ (limit_of (at table i)) (omega (arith, t.deadline, t.period))) (blockers_of table i)

  response-in-range : (m : Method) (i : ℕ) → i < table.count → AnswerInRange (response_of table m i)
  unfolding response_of
  response-in-range (Of m) i h = answer-in-range m i h
  response-in-range Combined i h =
      sooner-in-range (counted_response table UcbUnion i) (counted_response table EcbUnion i) (answer-in-range UcbUnion i h) (answer-in-range EcbUnion i h)

-- ---- what the rows hold

answer_at : (table : Table) (i m : ℕ) → m < 6 → answer_under (row_of table i) m ≡ response_of table (numbered m) i
answer_at table i zero h = refl
answer_at table i (suc zero) h = refl
answer_at table i (suc (suc zero)) h = refl
answer_at table i (suc (suc (suc zero))) h = refl
answer_at table i (suc (suc (suc (suc zero)))) h = refl
answer_at table i (suc (suc (suc (suc (suc zero))))) h = refl
answer_at table i (suc (suc (suc (suc (suc (suc m)))))) h = absurd (omega arith)

module _ (table : Table) (rows : List Row) (e : rows ≡ front no_row (row_of table) table.count) where
  row_at : (i : ℕ) → i < table.count → get_or rows i blank_row ≡ row_of table i
  row_at i h = ap (λ (xs : List Row). get_or xs i blank_row) e ∙ front_at no_row (row_of table) table.count i blank_row h

  pub rows-hold : (m i : ℕ) → m < 6 → i < table.count → answers_in rows m i ≡ response_of table (numbered m) i
  rows-hold m i h l = ap (λ (row : Row). answer_under row m) (row_at i l) ∙ answer_at table i m h

  pub reportable : AcceptedTable table → Reportable table rows
  reportable accepted = record {
    accepted = accepted;
    ranged = λ m i h l. rw (rows-hold m i h l) (response-in-range table accepted (numbered m) i l);
  }

  pub report-is : report_of table (answers_in rows) ≡ report_in table
  report-is = report-agrees table (answers_in rows) (λ m. response_of table (numbered m)) rows-hold

  -- what the first rows hold is what is answered
  first-hold : (m i : ℕ) → m < 6 → i < table.count → answers_in (take table.count rows) m i ≡ response_of table (numbered m) i
  first-hold m i k l = ap (λ (row : Row). answer_under row m) (get_or-take table.count rows i blank_row l) ∙ rows-hold m i k l

  pub verdicts-are : table.count ≤ length rows
      → verdicts_in (length (take table.count rows)) (answers_in (take table.count rows)) ≡ verdicts_in table.count (λ m. response_of table (numbered m))
  verdicts-are h =
      rw (length-take-le table.count rows h) (each-verdict-agrees table.count (answers_in (take table.count rows)) (λ m. response_of table (numbered m)) first-hold)

  pub every-is : table.count ≤ length rows
      → every_verdict (length (take table.count rows)) (answers_in (take table.count rows)) ≡ every_verdict table.count (λ m. response_of table (numbered m))
  every-is h = rw (length-take-le table.count rows h) (verdicts-agree table.count (answers_in (take table.count rows)) (λ m. response_of table (numbered m)) first-hold)

-- ---- of a text that is read

pub text-passes : (text : List ℕ) (table : Table) → Ok table ≡ read_text text → (passes : Bool) → passes ≡ every_verdict table.count (λ m. response_of table (numbered m)) → Ok passes ≡ passes_to text
unfolding passes_to
text-passes text table read passes e = rw (← read) (ap Ok e)
