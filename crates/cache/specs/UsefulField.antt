-- What a field of useful blocks says. In the old form it is a field of cache sets, and there is 1 way. Where line 1 names the ways, it has one digit for each
-- of the table's cache sets, the highest first: so many useful blocks does this one hold.
use Rattle.std.specs.Prelude.{ℕ, zero, suc, ◌+◌, ◌-◌, ◌*◌, Bool, true, ◌&&◌, List, [], ◌∷◌, length, Option, Some, None, option_map, if◌then◌else◌, nat_le, nat_lt, ◌==◌}
use Rattle.std.specs.Char.{is_ascii_digit}
use Rattle.std.specs.List.{list_all}
use Rattle.cache.specs.declared.useful.Form.{Form}
use Rattle.cache.specs.declared.useful.Form.TheVariants.{Hex, Digits}
use Rattle.cache.specs.declared.useful.Useful.{Useful}
use Rattle.cache.specs.Field.{read_set}
use Rattle.cache.specs.Counts.{Counts, nothing, capped}
use Rattle.cache.specs.Levels.{marked, leveled}

-- how many ways a cache set has
abbrev pub ways_of : Form → ℕ
ways_of Hex = 1
ways_of (Digits ways) = ways

-- one digit more is the count of cache set 0, and the others move up by one
unfoldable pub push : ℕ → Counts → Counts
push d U zero = d
push d U (suc s) = U s

-- the counts of the digits read so far, U, and of the bytes to come
unfoldable pub read_counts : Counts → List ℕ → Counts
read_counts U [] = U
read_counts U (b ∷ f) = read_counts (push (b - 48) U) f

abbrev pub counts_of : List ℕ → Counts
counts_of f = read_counts nothing f

-- of the digits read so far, n, and of the bytes to come: the number whose bit s tells whether the count of cache set s is above l
unfoldable pub bits_above : ℕ → ℕ → List ℕ → ℕ
bits_above l n [] = n
bits_above l n (b ∷ f) = bits_above l (n * 2 + (if nat_lt l (b - 48) then 1 else 0)) f

-- a digit for each of so many cache sets, and nothing else
abbrev pub is_counted : ℕ → List ℕ → Bool
is_counted sets f = nat_le sets 256 && length f == sets && list_all is_ascii_digit f

-- what a field says in a table of this form with so many cache sets: useful blocks, or nothing. Counts above the ways are refused apart
unfoldable pub read_useful : Form → ℕ → List ℕ → Option Useful
read_useful Hex sets f = option_map marked (read_set sets f)
read_useful (Digits ways) sets f = if is_counted sets f then Some (leveled (capped ways (counts_of f))) else None

-- none of a field's digits is above the ways
unfoldable pub within_ways : Form → List ℕ → Bool
within_ways Hex f = true
within_ways (Digits ways) f = list_all (λ b. nat_le (b - 48) ways) f
