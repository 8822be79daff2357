-- What is told of texts.
use Rattle.std.proofs.Common.{ℕ, ◌≤◌, Bool, true, false, List, ◌++◌, length, take, drop, ◌≡◌, refl, sym, ap, ◌∙◌, arith, cond, ltb, Result, Ok, Err}
use Rattle.std.proofs.lemmas.Bool.{ltb-false}
use Rattle.std.proofs.Math.Seq.{take_at}
use Rattle.search.specs.declared.demand.Response.{Response}
use Rattle.search.specs.declared.demand.Response.TheVariants.{Within}
use Rattle.texts.specs.declared.refusals.Reason.TheVariants as reason
use Rattle.texts.specs.declared.refusals.Refusal.{Refusal}
use Rattle.texts.specs.Numbers.{untold}
use Rattle.table.specs.declared.Table.{Table}
use Rattle.table.specs.Reading.{then_read, read_text}
use Rattle.table.proofs.ToldNumbers.{text-low}
use Rattle.writing.proofs.Deliveries.{fitting}
use Rattle.table_text.specs.TableText.{table_text}
use Rattle.table_text.specs.Readable.{Readable}
use Rattle.table_text.proofs.RoundTrip.{written-then-read}
use Rattle.analysis.specs.declared.Method.{Method}
use Rattle.analysis.specs.Analysis.{response_of, numbered}
use Rattle.crpd.specs.Operations.{position_in, answer_to, WritesText, rewritten, WritesTable}
use Rattle.crpd.proofs.Easier.{easier-answers}
use Rattle.laws.specs.declared.any_text.TwoAnswers.{TwoAnswers}
use Rattle.laws.specs.Texts.{EasierTextRespondsFirst, ComesBack, IsReadAgain}
use Rattle.laws.proofs.TwoTexts.{no-other, answers-same}

-- ---- two texts

-- where there is an answer there is such a method
answered-method : (text : List ℕ) (m i : ℕ) (a : Response) → answer_to text m i ≡ Ok a → m ≤ 5
unfolding answer_to
answered-method text m i a e = go (ltb 5 m) (λ method. then_read (read_text text) (λ table. then_read (position_in table i) (λ i. Ok (response_of table method i)))) refl e
  where
    go : (t : Bool) (next : Method → Result Response Refusal) → ltb 5 m ≡ t → then_read (cond t (Err (untold reason.Method)) (Ok (numbered m))) next ≡ Ok a → m ≤ 5
    go true next l q = let z : ◌≡◌ {A = ℕ} 0 1 = cc in absurd (omega arith)
    go false next l q = ltb-false 5 m l

pub easier-text-first : (first second : List ℕ) (m i : ℕ) (r : TwoAnswers) → r.first ≡ answer_to first m i → r.second ≡ answer_to second m i
    → EasierTextRespondsFirst first second m i r
easier-text-first first second m i r f s = record {
  first_is = f;
  second_is = s;
  harder = λ a b p q h R e.
      let answered = sym s ∙ e in
      let w =
      easier-answers first second a b p q h m i (answered-method second m i (Within R) answered) R answered in
      (w.0, f ∙ w.1, w.2);
  same = λ a b p q h. f ∙ answers-same first second a b p q m i h ∙ sym s;
}

-- ---- there and back

-- a text that fits is delivered
fitting-made : {made : Result (List ℕ) Refusal} {most : ℕ} {text before after : List ℕ} {r : Result ℕ Refusal} → made ≡ Ok text → most ≤ length before
    → WritesText most made before r after → (r ≡ Ok (length text)) × (after ≡ text ++ drop (length text) before)
fitting-made {text = text} e h w =
    let f = fitting (omega (arith, w.short text e)) (record { answer = rw e at w.answer-is; buffer = rw e at w.buffer-is }) in
    (f.0, f.1.buffer-is)

-- a text that is refused leaves the buffer
refusal-left : {made : Result (List ℕ) Refusal} {most : ℕ} {before after : List ℕ} {r : Result ℕ Refusal} {refusal : Refusal} → made ≡ Err refusal
    → WritesText most made before r after → (r ≡ Err refusal) × (after ≡ before)
refusal-left e w = (rw e at w.answer-is, rw e at w.buffer-is)

pub comes-back : (text before : List ℕ) (r : Result ℕ Refusal) (after : List ℕ) → 16384 ≤ length before → WritesText 16384 (rewritten text) before r after → ComesBack text before r after
comes-back text before r after h w = record { accepted = λ table e. fitting-made (rw e) h w; refused = λ refusal e. let left = refusal-left (rw e) w in (left.0, rw e at (text-low text), left.1) }

-- what reading says of the table that is read
read-back : (result : Result (Unit {0}) Refusal) (read table : Table) → then_read result (λ _. Ok read) ≡ Ok table → (result ≡ Ok tt) × (read ≡ table)
read-back (Ok tt) read table e = (refl, cc)
read-back (Err r) read table e = absurd (no-other (sym e))

module _ (table : Table) (before after : List ℕ) (room : 16384 ≤ length before) where
  -- a table that some text gives is not refused
  not-refused : (e : Refusal) → Readable table → WritesTable table before (Err e) after → ⊥
  not-refused e readable w =
      let f = fitting-made (w.meant.given readable) room w.written in
      no-other (sym f.0)

  -- what is written of it reads as the table
  reads-again : (n : ℕ) → Readable table → WritesTable table before (Ok n) after → read_text (take n after) ≡ Ok table
  reads-again n readable w =
      let f = fitting-made (w.meant.given readable) room w.written in
      let all : n ≡ length (table_text table) = cc in
      rw (all, f.1, take_at (table_text table) (drop (length (table_text table)) before) (length (table_text table)) refl) (written-then-read table readable)

  -- where the table is written, it is then read
  pub written-again : (n : ℕ) (old read : Table) (result : Result (Unit {0}) Refusal) → WritesTable table before (Ok n) after
      → then_read result (λ _. Ok read) ≡ read_text (take n after) → IsReadAgain table old result read
  written-again n old read result w e = record {
    readable = λ readable. read-back result read table (e ∙ reads-again n readable w);
    refused = λ none. absurd (no-other (refusal-left (w.meant.refused none) w.written).0);
  }

  -- where it is refused, it has no text
  pub refused-again : (e : Refusal) (old : Table) → WritesTable table before (Err e) after → IsReadAgain table old (Err e) old
  refused-again e old w = record {
    readable = λ readable. absurd (not-refused e readable w);
    refused = λ none.
        let d : ◌≡◌ {A = Result ℕ Refusal} (Err e) (Err (untold reason.NoText)) = (refusal-left (w.meant.refused none) w.written).0 in
        let told : e ≡ untold reason.NoText = cc in
        (ap Err told, refl);
  }
