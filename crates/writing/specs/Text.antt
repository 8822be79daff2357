-- The text of a number, of a field and of a line.
use Rattle.std.specs.Prelude.{ℕ, zero, suc, ◌+◌, ◌/◌, ◌%◌, Bool, true, false, List, [], ◌∷◌, ◌++◌, flat_map, if◌then◌else◌, nat_lt, codes}

-- the byte of a digit
abbrev pub digit_byte : ℕ → ℕ
digit_byte d = 48 + d

-- the decimal digits of n, at most k of them
unfoldable pub digits_of : ℕ → ℕ → List ℕ
digits_of zero n = []
digits_of (suc k) n =
    elim (nat_lt n 10) [ true ↦ digit_byte n ∷ [] | false ↦ digits_of k (n / 10) ++ (digit_byte (n % 10) ∷ []) ]

-- a number in decimal with no leading zero: n has at most n + 1 digits
unfoldable pub spelled : ℕ → List ℕ
unfolding digits_of
spelled n = digits_of (suc n) n

-- the byte of a hex digit: `0` to `9` are 48 to 57, and `a` to `f` are 97 to 102
unfoldable pub hex_byte : ℕ → ℕ
hex_byte d = if nat_lt d 10 then 48 + d else 87 + d

-- the lowest k hex digits of a number, the most significant first
unfoldable pub hex_digits : ℕ → ℕ → List ℕ
hex_digits zero n = []
hex_digits (suc k) n = hex_digits k (n / 16) ++ (hex_byte (n % 16) ∷ [])

-- a field after the first: a tab, and its text
abbrev pub after_tab : List ℕ → List ℕ
after_tab text = 9 ∷ text

-- a line: its first field, each other field after a tab, and LF
abbrev pub line_of : List ℕ → List (List ℕ) → List ℕ
line_of first others = first ++ flat_map after_tab others ++ (10 ∷ [])

-- `yes` or `no`
abbrev pub yes_no : Bool → List ℕ
yes_no true = codes "yes"
yes_no false = codes "no"
