-- Any worker. What a public operation promises is an equation with a definition of the text, the numbers and, for 14, the buffer's length. So two calls that
-- agree on these agree on the answer and on every byte that is written, whoever makes them, in whatever order, and whatever their buffers held.
use Rattle.std.proofs.Common.{◌≡◌, ℕ, ◌≤◌, Bool, true, false, cond, List, [], length, arith, refl, sym, ap, ◌∙◌, inl, inr, Result, Ok, Err, leb, le-leb}
use Rattle.texts.specs.declared.refusals.Reason.TheVariants.{ShortBuffer}
use Rattle.texts.specs.declared.refusals.Refusal.{Refusal}
use Rattle.texts.specs.Numbers.{untold}
use Rattle.writing.specs.Delivery.{written_of, buffer_of, PutsText}
use Rattle.crpd.specs.Operations.{told_of, left_of, WritesText, printed}
use Rattle.crpd.specs.Codes.{number_code, CodesText}
use Rattle.laws.specs.Calls.{started_with, CallsAgree, SameRoom}

-- ---- a text that is delivered whole or refused

-- of two buffers with the same room a text fits into both or into neither
fits-alike : (n most : ℕ) (before before' : List ℕ) → n ≤ most → SameRoom most before before' → leb n (length before) ≡ leb n (length before')
fits-alike n most before before' h (inl e) = ap (leb n) e
fits-alike n most before before' h (inr (p, q)) = le-leb n (length before) (omega arith) ∙ sym (le-leb n (length before') (omega arith))

delivered-agree : (text before before' : List ℕ) → leb (length text) (length before) ≡ leb (length text) (length before')
    → CallsAgree (written_of text before) (written_of text before') before (buffer_of text before) before' (buffer_of text before')
delivered-agree text before before' e = rw e (go (leb (length text) (length before')))
  where
    go : (t : Bool) → CallsAgree (cond t (Ok (length text)) (Err (untold ShortBuffer))) (cond t (Ok (length text)) (Err (untold ShortBuffer)))
        before (cond t (started_with text before) before) before' (cond t (started_with text before') before')
    go true = record { answers = refl; bytes = text; after_is = refl; after'-is = refl }
    go false = record { answers = refl; bytes = []; after_is = refl; after'-is = refl }

-- unless a refusal stands in its place
made-agree : (made : Result (List ℕ) Refusal) (before before' : List ℕ) → ((text : List ℕ) → made ≡ Ok text → leb (length text) (length before) ≡ leb (length text) (length before'))
    → CallsAgree (told_of made before) (told_of made before') before (left_of made before) before' (left_of made before')
made-agree (Ok text) before before' e = delivered-agree text before before' (e text refl)
made-agree (Err r) before before' e = record { answers = refl; bytes = []; after_is = refl; after'-is = refl }

-- what is told of the answers, and of the buffers that are promised
told-agree : {A B : Type 0} (told : A → B) {x y : A} {one other : B} {before after before' after' left left' : List ℕ} → CallsAgree x y before left before' left'
    → one ≡ told x → other ≡ told y → after ≡ left → after' ≡ left' → CallsAgree one other before after before' after'
told-agree told p e f g h = record { answers = e ∙ ap told p.answers ∙ sym f; bytes = p.bytes; after_is = g ∙ p.after_is; after'-is = h ∙ p.after'-is }

-- ---- the operations that answer only, `answer` and `growth`, and the numbers that are exported of them: whatever is promised, two that keep it agree

pub calls-agree : {A : Type 0} {promised one other : A} → one ≡ promised → other ≡ promised → one ≡ other
calls-agree p q = p ∙ sym q

-- ---- the operations that write: reports, explanations, rewritten and scaled texts of one text, and, by what is promised as `written`, texts of one table

module _ {most : ℕ} {made : Result (List ℕ) Refusal} {before after before' after' : List ℕ} {one other : Result ℕ Refusal} where
  pub written-calls-agree : WritesText most made before one after → WritesText most made before' other after' → SameRoom most before before'
      → CallsAgree one other before after before' after'
  written-calls-agree p q room =
      told-agree (λ (w : Result ℕ Refusal). w) (made-agree made before before' (λ text e. fits-alike (length text) most before before' (p.short text e) room))
      p.answer-is q.answer-is p.buffer-is q.buffer-is

-- ---- what is exported of these: the numbers of `crpd_report`, `crpd_explain`, `crpd_rewrite` and `crpd_scaled`

-- whatever text is made, so much room as it takes will do
module _ {made : Result (List ℕ) Refusal} {before after before' after' : List ℕ} {one other : ℕ} where
  pub exported-calls-agree : CodesText made before one after → CodesText made before' other after' → ((text : List ℕ) → made ≡ Ok text → SameRoom (length text) before before')
      → CallsAgree one other before after before' after'
  exported-calls-agree p q room =
      told-agree number_code (made-agree made before before' (λ text e. fits-alike (length text) (length text) before before' (omega arith) (room text e)))
      p.answer-is q.answer-is p.buffer-is q.buffer-is

-- ---- what the program prints: `crpd_print` and `print`

module _ {text before after before' after' : List ℕ} {one other : ℕ} where
  pub exported-print-calls-agree : CodesText (Ok text) before one after → CodesText (Ok text) before' other after' → SameRoom (length text) before before'
      → CallsAgree one other before after before' after'
  exported-print-calls-agree p q room = exported-calls-agree p q (λ t e. let same : text ≡ t = cc in rw (← same) room)

pub print-calls-agree : (text : List ℕ) {before after before' after' : List ℕ} {one other : ℕ} → PutsText (printed text) before one after
    → PutsText (printed text) before' other after' → CallsAgree one other before after before' after'
print-calls-agree text p q = record { answers = calls-agree p.length-is q.length-is; bytes = printed text; after_is = p.buffer-is; after'-is = q.buffer-is }
