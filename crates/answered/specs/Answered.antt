-- What a command writes of a text, and how it ends.
use Rattle.std.specs.Prelude.{ℕ, ◌+◌, List, [], ◌∷◌, ◌++◌, codes, Bool, true, false, not, nat_le, is_some, Option, Some, None, Result, Ok}
use Rattle.std.specs.List.{list_any}
use Rattle.cache.specs.declared.units.Ticks.{Ticks}
use Rattle.texts.specs.declared.refusals.Refusal.{Refusal}
use Rattle.table.specs.declared.Table.{Table}
use Rattle.table.specs.Reading.{read_text, ◌>>=◌}
use Rattle.search.specs.declared.demand.Response.{Response}
use Rattle.search.specs.declared.demand.Response.TheVariants.{Within, Unschedulable}
use Rattle.search.specs.Positions.{between}
use Rattle.analysis.specs.declared.Method.{Method}
use Rattle.search.specs.Least.{has_response}
use Rattle.report.specs.Verdicts.{passes_to}
use Rattle.writing.specs.Text.{spelled}
use Rattle.claims.specs.declared.finding.Finding.{Finding}
use Rattle.claims.specs.declared.finding.Finding.TheVariants.{Bad, Open, Fine}
use Rattle.claims.specs.Findings.{finding_of}
use Rattle.claims.specs.Lists.{claims_in}
use Rattle.claims.specs.Told.{claim_at}
use Rattle.edf.specs.declared.Verdict.{Verdict}
use Rattle.edf.specs.declared.Verdict.TheVariants.{Yes, No}
use Rattle.crpd.specs.Operations.{method_named, answer_to, explanation_to, growth_to, scaled_to, checked_to, edf_to, replay_to, printed}
use Rattle.endings.specs.declared.Ending.{Ending}
use Rattle.endings.specs.Endings.{ending_of}
use Rattle.endings.specs.declared.Answered.{Answered}
use Rattle.endings.specs.Answered.{unless_refused, WritesAnswer}
use Rattle.answered.specs.declared.Question.{Question}
use Rattle.answered.specs.declared.Question.TheVariants.{Report, Answer, Explain, Growth, Scaled, Edf, Replay}

-- ---- answers of one line

abbrev pub as_line : List ℕ → List ℕ
as_line text = text ++ (10 ∷ [])

-- a response, or `-`
abbrev pub told_response : Response → List ℕ
told_response (Within t) = as_line (spelled t.0)
told_response Unschedulable = codes "-\n"

-- where a first job ends, or `-`
abbrev pub told_end : Option Ticks → List ℕ
told_end (Some t) = as_line (spelled t.0)
told_end None = codes "-\n"

abbrev pub told_yes : Verdict → List ℕ
told_yes Yes = codes "yes\n"
told_yes No = codes "no\n"

-- ---- what is written of a text

-- of each question; of a report the line of the refusal, too
unfoldable pub bytes_for : Question → List ℕ → List ℕ
bytes_for Report text = printed text
bytes_for (Answer m p) text = unless_refused told_response (answer_to text m p)
bytes_for (Explain m p) text = unless_refused (λ lines. lines) (explanation_to text m p)
bytes_for (Growth m) text = unless_refused (λ k. as_line (spelled k)) (growth_to text m)
bytes_for (Scaled m) text = unless_refused (λ table. table) (scaled_to text m)
bytes_for Edf text = unless_refused told_yes (edf_to text)
bytes_for (Replay p) text = unless_refused told_end (replay_to text p)

-- ---- how it ends

abbrev pub is_yes : Verdict → Bool
is_yes Yes = true
is_yes No = false

-- by what is found, or by the refusal
unfoldable pub ending_for : Question → List ℕ → Result Ending Refusal
ending_for Report text = do
  passes ← passes_to text
  Ok (ending_of passes)
ending_for (Answer m p) text = do
  response ← answer_to text m p
  Ok (ending_of (has_response response))
ending_for (Explain m p) text = do
  lines ← explanation_to text m p
  response ← answer_to text m p
  Ok (ending_of (has_response response))
ending_for (Growth m) text = do
  k ← growth_to text m
  Ok (ending_of (nat_le 1000 k))
ending_for (Scaled m) text = do
  scaled ← scaled_to text m
  k ← growth_to text m
  Ok (ending_of (nat_le 1000 k))
ending_for Edf text = do
  verdict ← edf_to text
  Ok (ending_of (is_yes verdict))
ending_for (Replay p) text = do
  end ← replay_to text p
  Ok (ending_of (is_some end))

-- ---- a partner's list that is checked

abbrev pub bytes_checked : List ℕ → List ℕ → ℕ → List ℕ
bytes_checked text list m = unless_refused (λ lines. lines) (checked_to text list m)

abbrev pub is_bad : Finding → Bool
is_bad Bad = true
is_bad Open = false
is_bad Fine = false

-- what is claimed of some task is bad
abbrev pub has_bad_claim : Table → Method → List Response → Bool
has_bad_claim table m claims = list_any (λ i. is_bad (finding_of table m i (claim_at claims i))) (between 0 table.count)

-- with a bad claim it ends as where a response is missing
unfoldable pub ending_checked : List ℕ → List ℕ → ℕ → Result Ending Refusal
ending_checked text list m = do
  method ← method_named m
  table ← read_text text
  claims ← claims_in table list
  Ok (ending_of (not (has_bad_claim table method claims)))

-- ---- what becomes of the bytes

-- a question about a text
abbrev pub AnswersTo : Question → List ℕ → Option (List ℕ) → Option (List ℕ) → Answered → Type 0
AnswersTo question text before after answered = WritesAnswer (bytes_for question text) (ending_for question text) before after answered

-- a list that is checked
abbrev pub ChecksTo : List ℕ → List ℕ → ℕ → Option (List ℕ) → Option (List ℕ) → Answered → Type 0
ChecksTo text list m before after answered = WritesAnswer (bytes_checked text list m) (ending_checked text list m) before after answered
