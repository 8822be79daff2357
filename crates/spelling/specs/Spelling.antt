-- Any bytes as a terminal may show them: characters that are kept as they are, all other bytes spelled out.
use Rattle.std.specs.Prelude.{ℕ, ◌≡◌, ◌≤◌, ◌⊎◌, ◌+◌, ◌-◌, ◌*◌, ◌/◌, ◌%◌, Bool, true, false, not, ◌&&◌, ◌||◌, List, [], ◌∷◌, ◌++◌, if◌then◌else◌, ◌==◌, nat_lt, nat_le, slice_index_or, codes}
use Rattle.std.specs.List.{list_any}
use Rattle.writing.specs.Text.{hex_byte}
use Rattle.spelling.specs.declared.Character.{Character}
use Rattle.spelling.specs.declared.Kind.{Kind}
use Rattle.spelling.specs.declared.Kind.TheVariants.{Field, Text}

-- ---- a character: how many bytes it has as UTF-8, none where there is no character, and its number

-- the byte at a place, 0 behind the last
abbrev pub byte_in : List ℕ → ℕ → ℕ
byte_in text place = slice_index_or text place 0

abbrev pub no_character : Character
no_character = record { bytes = 0; code = 0 }

abbrev pub character_of : ℕ → ℕ → Character
character_of bytes code = record { bytes = bytes; code = code }

-- whether a byte is one of a character that is not its first
abbrev pub is_later : ℕ → Bool
is_later byte = nat_le 128 byte && nat_lt byte 192

-- a character of two bytes, of three, and of four: none that fits into fewer, none that is half of a pair, none above 0x10ffff
abbrev pub code_of_two : ℕ → ℕ → ℕ
code_of_two first second = first % 32 * 64 + second % 64

abbrev pub code_of_three : ℕ → ℕ → ℕ → ℕ
code_of_three first second third = first % 16 * 4096 + second % 64 * 64 + third % 64

abbrev pub code_of_four : ℕ → ℕ → ℕ → ℕ → ℕ
code_of_four first second third fourth = first % 16 * 262144 + second % 64 * 4096 + third % 64 * 64 + fourth % 64

abbrev pub of_three : ℕ → Character
of_three code = if nat_lt code 2048 || (nat_le 55296 code && nat_lt code 57344) then no_character else character_of 3 code

abbrev pub of_four : ℕ → Character
of_four code = if nat_lt code 65536 || nat_le 1114112 code then no_character else character_of 4 code

abbrev pub many_bytes : ℕ → ℕ → ℕ → ℕ → Character
many_bytes first second third fourth =
    if not (is_later second) then no_character
    else if nat_le 194 first && nat_lt first 224 then character_of 2 (code_of_two first second)
    else if not (is_later third) then no_character
    else if nat_le 224 first && nat_lt first 240 then of_three (code_of_three first second third)
    else if not (is_later fourth) || (nat_lt first 240 || nat_le 248 first) then no_character
    else of_four (code_of_four first second third fourth)

abbrev pub character_from : ℕ → ℕ → ℕ → ℕ → Character
character_from first second third fourth = if nat_lt first 128 then character_of 1 first else many_bytes first second third fourth

-- the character at a text's start
unfoldable pub first_character : List ℕ → Character
first_character text = character_from (byte_in text 0) (byte_in text 1) (byte_in text 2) (byte_in text 3)

-- ---- what is kept

-- the characters that control, are not seen, or turn others round: from the first to the last of each range
abbrev pub unseen : List (ℕ × ℕ)
unseen =
    (0, 31) ∷ (127, 159) ∷ (173, 173) ∷ (1564, 1564) ∷ (6158, 6158) ∷ (8203, 8207) ∷ (8232, 8238) ∷ (8288, 8303) ∷ (65279, 65279) ∷ (65529, 65531) ∷ []

-- whether people see a character
unfoldable pub is_seen : ℕ → Bool
is_seen code = not (list_any (λ range. nat_le range.0 code && nat_le code range.1) unseen)

-- whether a character is kept as it is. In a field the backslash is not: it stands before what is spelled out. In a text line ends and tabs are
abbrev pub is_kept : Kind → ℕ → Bool
is_kept Field code = is_seen code && not (code == 92)
is_kept Text code = is_seen code || (code == 10 || code == 9)

-- how many bytes the character at a text's start has, where it is kept as it is
unfoldable pub kept_bytes : Kind → List ℕ → ℕ
kept_bytes kind text = if is_kept kind (first_character text).code then (first_character text).bytes else 0

-- how many bytes are kept from here on, where so many are left of a character that began before
abbrev pub kept_now : Kind → ℕ → List ℕ → ℕ
kept_now kind left text = if left == 0 then kept_bytes kind text else left

-- ---- what is spelled out

-- a byte: LF, the tab and the backslash by a letter, others by their two hex digits
unfoldable pub escaped : ℕ → List ℕ
escaped byte =
    if byte == 10 then 92 ∷ codes "n"
    else if byte == 9 then 92 ∷ codes "t"
    else if byte == 92 then 92 ∷ 92 ∷ []
    else 92 ∷ 120 ∷ hex_byte (byte / 16) ∷ hex_byte (byte % 16) ∷ []

-- a text, where so many bytes are left of a character that began before
unfoldable pub spelled_from : Kind → ℕ → List ℕ → List ℕ
spelled_from kind left [] = []
spelled_from kind left (byte ∷ text) =
    let kept = kept_now kind left (byte ∷ text) in
    if kept == 0 then escaped byte ++ spelled_from kind 0 text else byte ∷ spelled_from kind (kept - 1) text

-- as one field
abbrev pub spelled_out : List ℕ → List ℕ
spelled_out text = spelled_from Field 0 text

-- as a text of lines
abbrev pub cleaned : List ℕ → List ℕ
cleaned text = spelled_from Text 0 text

-- ---- what is clean

-- whether each character of a text is kept, where so many bytes are left of one that began before
unfoldable pub is_clean_from : ℕ → List ℕ → Bool
is_clean_from left [] = true
is_clean_from left (byte ∷ text) =
    let kept = kept_now Text left (byte ∷ text) in
    if kept == 0 then false else is_clean_from (kept - 1) text

-- whether each character of a text is one that people see, a line end or a tab
abbrev pub is_clean : List ℕ → Bool
is_clean text = is_clean_from 0 text

-- a byte at which a terminal does no more than show it: a line end, a tab, and what stands from the blank on but 127
abbrev pub IsPlain : ℕ → Type 0
IsPlain byte = (byte ≡ 10) ⊎ (byte ≡ 9) ⊎ ((32 ≤ byte) × ¬ (byte ≡ 127))
