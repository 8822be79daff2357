-- What is shown of a text, and how it ends.
use Rattle.std.proofs.Common.{◌≡◌, ℕ, Bool, List, [], Option, ap, ◌∙◌, refl, Ok, Err}
use Rattle.table.specs.declared.Table.{Table}
use Rattle.texts.specs.declared.refusals.Refusal.{Refusal}
use Rattle.table.specs.Reading.{read_text}
use Rattle.report.specs.Verdicts.{passes_to}
use Rattle.endings.specs.Endings.{ending_of}
use Rattle.endings.specs.declared.Answered.{Answered}
use Rattle.endings.specs.Answered.{Writes}
use Rattle.shown.specs.Shown.{shown_of, shown_to, ShowsTo}

-- ---- of a text that is read

pub text-shown : (text : List ℕ) (table : Table) → Ok table ≡ read_text text → (colours : Bool) (out : List ℕ) → out ≡ shown_of colours table → Ok out ≡ shown_to colours text
unfolding shown_to
text-shown text table read colours out e = rw (← read) (ap Ok e)

-- ---- what is written

module _ (colours : Bool) (text : List ℕ) (a b : Option (List ℕ)) (answered : Answered) where
  pub shows : (lines : List ℕ) (passes : Bool) → Ok lines ≡ shown_to colours text → Ok passes ≡ passes_to text → Writes lines a b answered.written → answered.ending ≡ Ok (ending_of passes)
      → ShowsTo colours text a b answered
  shows lines passes shown went wrote ends = record {
    written = rw (← shown) wrote;
    ending-is = ends ∙ rw (← went) refl;
  }

  -- a text that is refused is not shown
  pub shows-refused : (refusal : Refusal) → Err refusal ≡ read_text text → Writes [] a b answered.written → answered.ending ≡ Err refusal → ShowsTo colours text a b answered
  unfolding shown_to passes_to
  shows-refused refusal refused wrote ends = record {
    written = rw (← refused) wrote;
    ending-is = ends ∙ rw (← refused) refl;
  }
