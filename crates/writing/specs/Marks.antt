-- A set of cache sets, and useful blocks, as a field of a table text, and whether a field can hold them.
use Rattle.std.specs.Prelude.{ℕ, zero, suc, ◌+◌, ◌-◌, ◌*◌, ◌/◌, ◌^◌, Bool, ◌&&◌, ◌||◌, List, [], ◌∷◌, length, nat_lt, ◌==◌}
use Rattle.cache.specs.declared.useful.Form.{Form}
use Rattle.cache.specs.declared.useful.Form.TheVariants.{Hex, Digits}
use Rattle.cache.specs.declared.useful.Useful.{Useful}
use Rattle.cache.specs.Counts.{Counts}
use Rattle.cache.specs.Levels.{set_at, counts}
use Rattle.cache.specs.UsefulField.{ways_of}
use Rattle.cache.specs.declared.sets.CacheSet.{CacheSet}
use Rattle.cache.specs.Words.{number_of, is_blank, is_part}
use Rattle.writing.specs.Text.{digit_byte, hex_digits}

-- the field of a set in a table of so many cache sets: one digit for each four of them
unfoldable pub marks_text : ℕ → CacheSet → List ℕ
marks_text sets c = hex_digits (sets / 4) (number_of c)

-- how many of so many cache sets have their bit in word k: at most 64
unfoldable pub bits_in : ℕ → ℕ → ℕ
bits_in sets k = (sets - 64 * k) - (sets - 64 * (k + 1))

-- the words of a set, the lowest cache sets first
abbrev pub word_list : CacheSet → List ℕ
word_list c = c.w0 ∷ c.w1 ∷ c.w2 ∷ c.w3 ∷ []

-- every mark is that of one of so many cache sets: no word has a bit beyond those that they have in it
unfoldable pub marks_fit : ℕ → CacheSet → Bool
marks_fit sets c =
    nat_lt c.w0 (2 ^ bits_in sets 0)
    && nat_lt c.w1 (2 ^ bits_in sets 1)
    && nat_lt c.w2 (2 ^ bits_in sets 2)
    && nat_lt c.w3 (2 ^ bits_in sets 3)

-- ---- useful blocks

-- a digit for each of so many cache sets, the highest first
unfoldable pub count_digits : ℕ → Counts → List ℕ
count_digits zero U = []
count_digits (suc s) U = digit_byte (U s) ∷ count_digits s U

-- the field of useful blocks in a table of this form with so many cache sets
unfoldable pub useful_text : Form → ℕ → Useful → List ℕ
useful_text Hex sets u = marks_text sets (set_at u.levels 0)
useful_text (Digits ways) sets u = count_digits sets (counts ways u)

-- a level that can be one of the levels of a field: its marks are those of so many cache sets, it is empty beyond the ways, and the one below it has all of it
unfoldable pub level_fits : ℕ → ℕ → List CacheSet → ℕ → Bool
level_fits ways sets levels l =
    marks_fit sets (set_at levels l)
    && (nat_lt l ways || is_blank (set_at levels l))
    && (l == 0 || is_part (set_at levels l) (set_at levels (l - 1)))

-- useful blocks that a field can say
unfoldable pub useful_fits : Form → ℕ → Useful → Bool
useful_fits form sets u =
    let fits = level_fits (ways_of form) sets u.levels in
    length u.levels == 8 && fits 0 && fits 1 && fits 2 && fits 3 && fits 4 && fits 5 && fits 6 && fits 7
