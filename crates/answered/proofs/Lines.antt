-- How long lines are, and what stands at the start of a buffer.
use Rattle.std.proofs.Common.{◌≡◌, ℕ, ◌^◌, Bool, true, false, cond, Option, ◌≤◌, ◌<◌, List, length, take, drop, arith, refl, ap, subst, ◌∙◌, Result, Ok, Err}
use Rattle.std.proofs.Math.Seq.{take-append_seam}
use Rattle.texts.specs.declared.refusals.Refusal.{Refusal}
use Rattle.table.specs.Reading.{then_read}
use Rattle.writing.specs.Text.{spelled}
use Rattle.writing.specs.Delivery.{PutsText, DeliversText}
use Rattle.writing.proofs.Spelling.{spelled_short}
use Rattle.writing.proofs.Deliveries.{fitting}
use Rattle.endings.specs.declared.Ending.{Ending}
use Rattle.endings.specs.declared.Ending.TheVariants.{Given, NoResponse}
use Rattle.endings.specs.Endings.{ending_of}
use Rattle.crpd.specs.declared.Outcome.{Outcome}
use Rattle.crpd.specs.declared.Outcome.TheVariants.{Passed, SomeUnschedulable, Refused}
use Rattle.crpd.specs.Operations.{WritesText, outcome_of, outcome_to}
use Rattle.table.specs.declared.Table.{Table}
use Rattle.table.specs.Reading.{read_text}
use Rattle.analysis.specs.Analysis.{response_of, numbered}
use Rattle.report.specs.Verdicts.{every_verdict, passes_to}
use Rattle.endings.specs.declared.Answered.{Answered}
use Rattle.endings.specs.Answered.{unless_refused, Writes, WritesAnswer}
use Rattle.answered.specs.declared.Question.TheVariants.{Report}
use Rattle.answered.specs.Answered.{ending_for}

-- a number of 64 bits has at most 20 digits
pub number_fits : (n : ℕ) → n < 2 ^ 64 → length (spelled n) ≤ 20
number_fits n l = spelled_short 19 n (omega arith)

-- what was put stands at the start
pub put_start : (text before after : List ℕ) (end : ℕ) → PutsText text before end after → take end after ≡ text
put_start text before after end p = ap (λ n. take n after) p.length-is ∙ ap (take (length text)) p.buffer-is ∙ take-append_seam text (drop (length text) before)

-- ---- what an operation wrote into a buffer that has room for it

fitted : {most : ℕ} {before after : List ℕ} → most ≤ length before → (text : List ℕ) (w : Result ℕ Refusal) → WritesText most (Ok text) before w after
    → (w ≡ Ok (length text)) × PutsText text before (length text) after
fitted {most} {before} {after} room text w p =
    let d : DeliversText text before w after = record { answer = p.answer-is; buffer = p.buffer-is } in
    let fits : length text ≤ length before = omega (arith, p.short text refl) in
    fitting fits d

module _ {most : ℕ} {made : Result (List ℕ) Refusal} {before after : List ℕ} (room : most ≤ length before) where
  -- the text, where it is given
  pub text_put : (n : ℕ) → WritesText most made before (Ok n) after → PutsText (unless_refused (λ text. text) made) before n after
  text_put n p = go made p
    where
      go : (m : Result (List ℕ) Refusal) → WritesText most m before (Ok n) after → PutsText (unless_refused (λ text. text) m) before n after
      go (Ok text) q =
          let f = fitted room text (Ok n) q in
          let same : length text ≡ n = cc in
          rw same at f.1
      go (Err r) q = let d : Ok n ≡ Err r = q.answer-is in let z : ◌≡◌ {A = ℕ} 0 1 = cc in absurd (omega arith)

  -- what is asked after it
  pub text_given : (n : ℕ) → WritesText most made before (Ok n) after → (next : Result Ending Refusal) → then_read made (λ text. next) ≡ next
  text_given n p next = go made p
    where
      go : (m : Result (List ℕ) Refusal) → WritesText most m before (Ok n) after → then_read m (λ text. next) ≡ next
      go (Ok text) q = refl
      go (Err r) q = let d : Ok n ≡ Err r = q.answer-is in let z : ◌≡◌ {A = ℕ} 0 1 = cc in absurd (omega arith)

  -- nothing, where it is refused
  pub refusal_put : (r : Refusal) → WritesText most made before (Err r) after → (made ≡ Err r) × (after ≡ before)
  refusal_put r p = go made p
    where
      go : (m : Result (List ℕ) Refusal) → WritesText most m before (Err r) after → (m ≡ Err r) × (after ≡ before)
      go (Ok text) q = let f = fitted room text (Err r) q in let z : ◌≡◌ {A = ℕ} 0 1 = cc in absurd (omega arith)
      go (Err s) q =
          let d : Err r ≡ Err s = q.answer-is in
          let same : s ≡ r = cc in
          (ap Err same, q.buffer-is)

-- ---- how it ends with a report

abbrev pub ending_in : Result Table Refusal → Result Ending Refusal
ending_in read = then_read (then_read read (λ table. Ok (every_verdict table.count (λ m. response_of table (numbered m))))) (λ passes. Ok (ending_of passes))

abbrev pub ending_with : Outcome → Result Ending Refusal → Result Ending Refusal
ending_with Passed refused = Ok Given
ending_with SomeUnschedulable refused = Ok NoResponse
ending_with Refused refused = refused

ended : (read : Result Table Refusal) → ending_with (outcome_of read) (then_read read (λ table. Ok Given)) ≡ ending_in read
ended (Err r) = refl
ended (Ok table) = go (every_verdict table.count (λ m. response_of table (numbered m)))
  where
    go : (b : Bool) → ending_with (cond b Passed SomeUnschedulable) (Ok Given) ≡ Ok (ending_of b)
    go true = refl
    go false = refl

pub report_ending : (text : List ℕ) (outcome : Outcome) → outcome ≡ outcome_to text → ending_with outcome (then_read (read_text text) (λ table. Ok Given)) ≡ ending_for Report text
unfolding outcome_to ending_for passes_to
report_ending text outcome e = rw e (ended (read_text text))

pub report_passed : (text : List ℕ) → Passed ≡ outcome_to text → Ok Given ≡ ending_for Report text
report_passed text e = report_ending text Passed e

pub report_unschedulable : (text : List ℕ) → SomeUnschedulable ≡ outcome_to text → Ok NoResponse ≡ ending_for Report text
report_unschedulable text e = report_ending text SomeUnschedulable e

pub report_refused : (text : List ℕ) → Refused ≡ outcome_to text → then_read (read_text text) (λ table. Ok Given) ≡ ending_for Report text
report_refused text e = report_ending text Refused e

-- ---- what is written

-- what stands at the start of a buffer
pub answers : (bytes before after : List ℕ) (ending : Result Ending Refusal) (end : ℕ) (a b : Option (List ℕ)) (answered : Answered) → PutsText bytes before end after
    → Writes (take end after) a b answered.written → answered.ending ≡ ending → WritesAnswer bytes ending a b answered
answers bytes before after ending end a b answered put wrote ends = record {
  written = subst (λ bytes. Writes bytes a b answered.written) (put_start bytes before after end put) wrote;
  ending-is = ends;
}
