-- Lists put together: all lines of them, in order.
use Rattle.std.specs.Prelude.{ℕ, List, [], ◌∷◌, ◌++◌, map, flat_map, if◌then◌else◌, Vec}
use Rattle.std.specs.declared.alloc.Global.{Global}
use denote.Ref.{Bor}
use Rattle.std.specs.declared.cmp.Ordering.{Ordering}
use Rattle.std.specs.Ordering.{is_lt, nat_cmp}
use Rattle.std.specs.Cmp.Lexicographic.{slice_cmp}
use Rattle.texts.specs.Cut.{lines}

-- the texts in vectors
abbrev pub texts_of : List (Vec ℕ Global) → List (List ℕ)
texts_of lists = map (λ l. l.items) lists

-- the texts that are lent
abbrev pub lent_of : List (Bor (List ℕ)) → List (List ℕ)
lent_of texts = map (λ t. t.now) texts

-- the lines of texts, without their ends
abbrev pub lines_in : List (List ℕ) → List (List ℕ)
lines_in lists = flat_map lines lists

-- the order of lines: the first byte that differs decides, and else the length
abbrev pub compare_lines : List ℕ → List ℕ → Ordering
compare_lines = slice_cmp nat_cmp

-- a line in its place among lines that are in order
abbrev pub in_place : List ℕ → List (List ℕ) → List (List ℕ)
in_place line [] = line ∷ []
in_place line (l ∷ ls) = if is_lt (compare_lines l line) then l ∷ in_place line ls else line ∷ l ∷ ls

-- lines in order
unfoldable pub ascending : List (List ℕ) → List (List ℕ)
ascending [] = []
ascending (l ∷ ls) = in_place l (ascending ls)

-- the text of lines: each ended by LF
abbrev pub text_of_lines : List (List ℕ) → List ℕ
text_of_lines ls = flat_map (λ l. l ++ 10 ∷ []) ls

-- lists put together
unfoldable pub together : List (List ℕ) → List ℕ
unfolding ascending
together lists = text_of_lines (ascending (lines_in lists))
