-- What a writer of a whole text answers, and what the buffer then holds.
use Rattle.std.specs.Prelude.{ℕ, ◌+◌, ◌≡◌, List, ◌++◌, length, take, drop, Result, Ok, Err, if◌then◌else◌, nat_le}
use Rattle.texts.specs.declared.refusals.Reason.TheVariants.{ShortBuffer}
use Rattle.texts.specs.declared.refusals.Refusal.{Refusal}
use Rattle.texts.specs.Numbers.{untold}

-- the text at the buffer's start, and after it the buffer as it was
pub record PutsText (text before : List ℕ) (end : ℕ) (after : List ℕ) : Type 0 where
  pub length-is : end ≡ length text
  pub buffer-is : after ≡ text ++ drop (length text) before

-- the text from a place on, and before and after it the buffer as it was
pub record PutsTextAt (text : List ℕ) (at : ℕ) (before : List ℕ) (end : ℕ) (after : List ℕ) : Type 0 where
  pub end-is : end ≡ at + length text
  pub buffer-is : after ≡ take at before ++ text ++ drop (at + length text) before

-- the text's length, or the refusal of a buffer that is shorter than the text
abbrev pub written_of : List ℕ → List ℕ → Result ℕ Refusal
written_of text before =
    if nat_le (length text) (length before) then Ok (length text) else Err (untold ShortBuffer)

-- the text at the buffer's start, and after it the buffer as it was; where it is refused, all of the buffer as it was
abbrev pub buffer_of : List ℕ → List ℕ → List ℕ
buffer_of text before = if nat_le (length text) (length before) then text ++ drop (length text) before else before

pub record DeliversText (text before : List ℕ) (written : Result ℕ Refusal) (after : List ℕ) : Type 0 where
  pub answer : written ≡ written_of text before
  pub buffer : after ≡ buffer_of text before
