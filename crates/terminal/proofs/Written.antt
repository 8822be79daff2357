-- Where there is no memory nothing is written, and a message is of bytes as it came.
use Rattle.std.proofs.Common.{◌≡◌, ℕ, zero, suc, ◌<◌, List, [], ◌∷◌, ◌++◌, true, false, true≢false, Option, get_or, codes, arith}
use Rattle.std.proofs.KnownBytes.{Appends-nil}
use Rattle.streams.specs.Bytes.{AppendsPart}
use Rattle.spelling.specs.Spelling.{cleaned, is_clean_from, is_clean}
use Rattle.spelling.proofs.Clean.{cleaned_clean, cleaned_some}
use Rattle.terminal.specs.Terminal.{message_line}

-- of a text that is not clean
pub nothing_written : (a : Option (List ℕ)) (text : List ℕ) → is_clean text ≡ false → AppendsPart a a (cleaned text)
unfolding is_clean_from
nothing_written a [] c = absurd (true≢false c)
nothing_written a (b ∷ s) c = (0, cleaned_some b s, Appends-nil a)

-- of a message
pub nothing_told : (a : Option (List ℕ)) (message : List ℕ) → AppendsPart a a (cleaned (message_line message))
nothing_told a message = (0, cleaned_some 99 _, Appends-nil a)

-- ---- a message as a line

abbrev Bytes : List ℕ → Type 0
Bytes s = (i : ℕ) → get_or s i 0 < 256

joined : (s t : List ℕ) → Bytes s → Bytes t → Bytes (s ++ t)
joined [] t h k i = k i
joined (b ∷ s) t h k zero = h 0
joined (b ∷ s) t h k (suc i) = joined s t (λ j. h (suc j)) k i

start : Bytes (codes "crpd: ")
start zero = omega arith
start (suc zero) = omega arith
start (suc (suc zero)) = omega arith
start (suc (suc (suc zero))) = omega arith
start (suc (suc (suc (suc zero)))) = omega arith
start (suc (suc (suc (suc (suc zero))))) = omega arith
start (suc (suc (suc (suc (suc (suc i)))))) = omega arith

end : Bytes (10 ∷ [])
end zero = omega arith
end (suc i) = omega arith

pub line_clean : (message : List ℕ) → Bytes message → is_clean (cleaned (message_line message)) ≡ true
line_clean message h = cleaned_clean (message_line message) (joined (codes "crpd: ") (message ++ 10 ∷ []) start (joined message (10 ∷ []) h end))
