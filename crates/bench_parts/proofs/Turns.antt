-- A text that is written again leaves what it left the first time.
use Rattle.std.proofs.Common.{ℕ, zero, suc, ◌+◌, ◌≤◌, add-one, arith, ◌≡◌, refl, ap, Bool, true, false, cond, List, ◌++◌, leb, length, drop, length-append, drop_at, le-leb, leb-true}
use Rattle.std.specs.Prelude.{Result}
use Rattle.texts.specs.declared.refusals.Refusal.{Refusal}
use Rattle.writing.specs.Delivery.{written_of, buffer_of, DeliversText}
use Rattle.bench_parts.specs.Parts.{turns, length_of, Repeated}

-- a text is delivered again as it was the first time
module _ (text before : List ℕ) where
  abbrev Alike : List ℕ → Type 0
  Alike b = (written_of text b ≡ written_of text before) × (buffer_of text b ≡ buffer_of text before)

  where-it-fits : length text ≤ length before → Alike (text ++ drop (length text) before)
  where-it-fits fits =
      let room : length text ≤ length (text ++ drop (length text) before) = simp length-append (omega arith) in
      (rw (le-leb _ _ room, le-leb _ _ fits), rw (le-leb _ _ room, le-leb _ _ fits, drop_at text (drop (length text) before) (length text) refl))

  once : (t : Bool) → leb (length text) (length before) ≡ t → Alike (cond t (text ++ drop (length text) before) before)
  once true e = where-it-fits (leb-true _ _ e)
  once false e = (refl, refl)

  pub delivered-again : (n : ℕ) → Alike (turns n before (buffer_of text before))
  delivered-again zero = (refl, refl)
  delivered-again (suc n) = once (leb (length text) (length before)) refl

pub turn_more : {text : List ℕ} {n : ℕ} {before out after : List ℕ} {len next : ℕ} {w : Result ℕ Refusal} → Repeated text n before len out
    → DeliversText text out w after → next ≡ length_of w → Repeated text (n + 1) before next after
turn_more {text} {n} {before} r d is =
    let again = delivered-again text before n in
    record {
      len_is = rw (add-one, is, d.answer, r.buffer-is) (ap length_of again.0);
      buffer-is = rw (add-one, d.buffer, r.buffer-is) again.1;
    }
