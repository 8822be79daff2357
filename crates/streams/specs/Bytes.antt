-- What becomes of the bytes of a reader and of a writer, where it is known which the one has left and which the other holds. Of a stream whose bytes are not known
-- nothing is said.
use Rattle.std.specs.Prelude.{ℕ, ◌+◌, ◌<◌, ◌≡◌, List, length, take, Option, IfSome}
use Rattle.std.specs.Io.KnownBytes.{Appends, Consumes}
use Rattle.table.specs.declared.TheConstants.Table.{LONGEST_TEXT}

-- fewer than so many of the reader's bytes were taken
abbrev pub ConsumesLess : ℕ → Option (List ℕ) → Option (List ℕ) → Type 0
ConsumesLess most before after = (taken : List ℕ) × (length taken < most) × Consumes before after taken

-- the writer got some of the bytes, the first ones, and not all
abbrev pub AppendsPart : Option (List ℕ) → Option (List ℕ) → List ℕ → Type 0
AppendsPart before after bytes = (n : ℕ) × (n < length bytes) × Appends before after (take n bytes)

-- the text of a table that is read of what a reader has: all of it, or as much as tells that it is too long
abbrev pub IsReadOf : Option (List ℕ) → List ℕ → Type 0
IsReadOf had text = IfSome had (λ bytes. text ≡ take (LONGEST_TEXT + 1) bytes)
