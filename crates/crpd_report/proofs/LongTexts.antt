-- A text longer than 16,384 bytes is refused by its length alone: what stands behind its first 16,385 bytes changes nothing of what is printed, and of how it goes.
use Rattle.std.proofs.Common.{◌≡◌, ℕ, List, ◌++◌, Some, None, IfSome, length, take, refl, ap, subst, ◌∙◌}
use Rattle.std.proofs.Math.Seq.{take-append_seam}
use Rattle.std.specs.Prelude.{Option}
use Rattle.std.specs.Io.KnownBytes.{Consumes, Appends}
use Rattle.crpd.specs.declared.Outcome.{Outcome}
use Rattle.crpd.specs.Operations.{printed, outcome_to}
use Rattle.streams.specs.Bytes.{AppendsPart}
use Rattle.streams.proofs.LongTexts.{read_front}

printed_front : (text : List ℕ) → printed (take 16385 text) ≡ printed text
unfolding printed
printed_front text = rw (read_front text) refl

outcome_front : (text : List ℕ) → outcome_to (take 16385 text) ≡ outcome_to text
unfolding outcome_to
outcome_front text = rw (read_front text) refl

-- ---- a run whose buffer has room for 16,385 bytes: len of the reader's bytes came into it

-- what was taken off the reader
pub run_consumed : (a b : Option (List ℕ)) (text : List ℕ) (len : ℕ) → length text ≡ 16385 → IfSome a (λ bytes. take len text ≡ take (length text) bytes)
    → Consumes a b (take len text) → IfSome a (λ bytes. Consumes a b (take 16385 bytes))
run_consumed None b text len room came p = tt
run_consumed (Some bytes) b text len room came p = subst (Consumes (Some bytes) b) (came ∙ ap (λ n. take n bytes) room) p

-- what is printed of them stands at the start of out
module _ (text out rest : List ℕ) (len end : ℕ) (room : length text ≡ 16385) (long : end ≡ length (printed (take len text))) (put : out ≡ printed (take len text) ++ rest) where
  shown : (bytes : List ℕ) → take len text ≡ take (length text) bytes → take end out ≡ printed bytes
  shown bytes came =
      ap (λ n. take n out) long ∙ ap (take (length (printed (take len text)))) put ∙ take-append_seam (printed (take len text)) rest
      ∙ ap printed (came ∙ ap (λ n. take n bytes) room)
      ∙ printed_front bytes

  -- and all of it was written
  pub run_written : (a old new : Option (List ℕ)) (outcome : Outcome) → IfSome a (λ bytes. take len text ≡ take (length text) bytes) → outcome ≡ outcome_to (take len text)
      → Appends old new (take end out) → IfSome a (λ bytes. (outcome ≡ outcome_to bytes) × Appends old new (printed bytes))
  run_written None old new outcome came told p = tt
  run_written (Some bytes) old new outcome came told p =
      (told ∙ ap outcome_to (came ∙ ap (λ n. take n bytes) room) ∙ outcome_front bytes, subst (Appends old new) (shown bytes came) p)

  -- or a part
  pub run_cut : (a old new : Option (List ℕ)) → IfSome a (λ bytes. take len text ≡ take (length text) bytes) → AppendsPart old new (take end out)
      → IfSome a (λ bytes. AppendsPart old new (printed bytes))
  run_cut None old new came p = tt
  run_cut (Some bytes) old new came p = subst (AppendsPart old new) (shown bytes came) p
