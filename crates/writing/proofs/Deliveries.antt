-- Deliveries of a text: where it fits it is put at the buffer's start. How long the line of a refusal is.
use Rattle.std.proofs.Common.{◌≡◌, refl, sym, ap, ap₂, ◌∙◌, ℕ, ◌+◌, ◌≤◌, ◌<◌, ◌^◌, List, [], ◌++◌, length, take, drop, arith, length-append, length-take-le, append_assoc, append-nil, take_at, Result, Ok, Err, le-leb}
use Rattle.std.proofs.Math.Seq.{drop-append-add}
use Rattle.std.proofs.lemmas.List.{drop-drop, take-append-drop}
use Rattle.std.proofs.lemmas.Bool.{lt-leb}
use Rattle.texts.specs.declared.refusals.Reason.TheVariants.{ShortBuffer}
use Rattle.texts.specs.declared.refusals.Refusal.{Refusal}
use Rattle.texts.specs.Numbers.{reason_number, untold}
use Rattle.texts.proofs.NumberLaws.{number-small}
use Rattle.writing.proofs.Spelling.{spelled_short}
use Rattle.writing.specs.Delivery.{PutsText, PutsTextAt, DeliversText}
use Rattle.writing.specs.Error.{error_text}

-- what is delivered, of a text that fits and of one that does not
pub fitting : {text out d : List ℕ} {r : Result ℕ Refusal} → length text ≤ length out → DeliversText text out r d → (r ≡ Ok (length text)) × PutsText text out (length text) d
fitting fits w = (rw (le-leb _ _ fits) at w.answer, record { length-is = refl; buffer-is = rw (le-leb _ _ fits) at w.buffer })

pub too_long : {text out d : List ℕ} {r : Result ℕ Refusal} → length out < length text → DeliversText text out r d → (r ≡ Err (untold ShortBuffer)) × (d ≡ out)
too_long long w = (rw (lt-leb _ _ long) at w.answer, rw (lt-leb _ _ long) at w.buffer)

-- one text behind another, both from a place on
pub put-more : (s t : List ℕ) (at : ℕ) {before o after : List ℕ} {e end : ℕ} → at + length s ≤ length before → PutsTextAt s at before e o → PutsTextAt t e o end after
    → PutsTextAt (s ++ t) at before end after
put-more s t at {before} {o} {after} {e} {end} room p q =
    let P = take at before ++ s in
    let rest = drop (at + length s) before in
    let long : length P ≡ e = length-append (take at before) s ∙ omega (arith, length-take-le at before (omega arith), p.end-is) in
    let first : take e o ≡ P = ap (take e) p.buffer-is ∙ take_at P rest e long in
    let last : drop (e + length t) o ≡ drop (at + length (s ++ t)) before =
    ap₂ (λ (n : ℕ) (l : List ℕ). drop (n + length t) l) (sym long) p.buffer-is
    ∙ drop-append-add P rest (length t)
    ∙ drop-drop (length t) (at + length s) before
    ∙ ap (λ (n : ℕ). drop n before) (omega (arith, length-append s t)) in
    record {
      end-is = omega (arith, p.end-is, q.end-is, length-append s t);
      buffer-is =
          q.buffer-is
          ∙ ap₂ (λ (x y : List ℕ). x ++ t ++ y) first last
          ∙ ap (λ (x : List ℕ). x ++ drop (at + length (s ++ t)) before) (append_assoc (take at before) s t);
    }

-- nothing yet
pub put-nothing : (at : ℕ) (before : List ℕ) → PutsTextAt [] at before at before
put-nothing at before = record {
  end-is = omega arith;
  buffer-is =
      sym (ap (λ (n : ℕ). take at before ++ [] ++ drop n before) (omega arith) ∙ ap (λ (x : List ℕ). x ++ drop at before) (append-nil (take at before)) ∙ take-append-drop at before);
}

-- where the buffer is shorter than the text
pub short-buffer : {text before : List ℕ} → length before < length text → DeliversText text before (Err (untold ShortBuffer)) before
short-buffer long = record { answer = rw (lt-leb _ _ long); buffer = rw (lt-leb _ _ long) }

-- a whole text, from the start on
pub put-delivered : {text before after : List ℕ} {end : ℕ} → length text ≤ length before → PutsTextAt text 0 before end after → DeliversText text before (Ok end) after
put-delivered {text} {before} {after} {end} fits p =
    let e : end ≡ length text = omega (arith, p.end-is) in
    record {
      answer = rw (e, le-leb _ _ fits);
      buffer = rw (le-leb _ _ fits) (p.buffer-is ∙ ap (λ (n : ℕ). text ++ drop n before) (omega arith));
    }

-- a refusal's number has two digits, and a number of 64 bits has at most 20
pub error-short : (e : Refusal) → e.line < 2 ^ 64 → length (error_text e) ≤ 26
unfolding error_text
error-short e l = simp length-append (omega (arith, number-small e.reason, spelled_short 1 (reason_number e.reason) (omega (arith, number-small e.reason)), spelled_short 19 e.line (omega arith)))
