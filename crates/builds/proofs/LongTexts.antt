-- A text longer than 16,384 bytes is refused by its length alone: what stands behind its first 16,385 bytes changes nothing of what is printed.
use Rattle.std.proofs.Common.{◌≡◌, ℕ, ◌<◌, List, length, take, arith, refl, sym, ap, ◌∙◌, take_all, length-take-le}
use Rattle.std.proofs.Math.Decide.{dec_lt}
use Rattle.std.proofs.lemmas.Bool.{lt-ltb}
use Rattle.texts.specs.declared.refusals.Reason.TheVariants.{TooLong}
use Rattle.texts.specs.Faults.{no_field}
use Rattle.texts.specs.Rows.{unless_fault}
use Rattle.table.specs.Reading.{read_text, refused}
use Rattle.crpd.specs.Operations.{printed}
use Rattle.builds.specs.Fates.{fate_of}

too_long : (text : List ℕ) → 16384 < length text → read_text text ≡ refused (no_field TooLong) 0
unfolding read_text unless_fault
too_long text long = rw (lt-ltb 16384 (length text) long) refl

read_front : (text : List ℕ) → read_text (take 16385 text) ≡ read_text text
read_front text =
    elim (dec_lt 16384 (length text)) [
      | yes long ↦ too_long (take 16385 text) (omega (arith, length-take-le 16385 text long)) ∙ sym (too_long text long)
      | no short ↦ ap read_text (take_all 16385 text (omega arith))
    ]

pub printed_front : (text : List ℕ) → printed (take 16385 text) ≡ printed text
unfolding printed
printed_front text = rw (read_front text) refl

pub fate_front : (text : List ℕ) → fate_of (take 16385 text) ≡ fate_of text
unfolding fate_of
fate_front text = rw (read_front text) refl
