-- What a field says: a number or a name; and the shape of a line.
use Rattle.std.specs.Prelude.{ℕ, ◌+◌, ◌-◌, ◌*◌, List, [], ◌∷◌, Bool, not, ◌&&◌, ◌||◌, length, Option, Some, None, is_some, unwrap_or, if◌then◌else◌, nat_le, slice_index, ◌==◌}
use Rattle.texts.specs.Cut.{field, field_count}
use Rattle.std.specs.List.{list_all}
use Rattle.std.specs.Str.{bytes_eq}
use Rattle.std.specs.Char.{is_ascii_digit}
use Rattle.texts.specs.Bytes.{is_name_byte}

-- decimal digits, most significant first, after digits that say v
unfoldable pub read_digits : ℕ → List ℕ → Option ℕ
read_digits v [] = Some v
read_digits v (b ∷ s) = if is_ascii_digit b then read_digits (v * 10 + (b - 48)) s else None

-- up to nine digits, and no leading zero: only `0` itself starts with one
unfoldable pub read_number : List ℕ → Option ℕ
read_number s =
    if nat_le 1 (length s) && nat_le (length s) 9 && (length s == 1 || not (slice_index s 0 == 48))
    then read_digits 0 s
    else None

-- whether a field is a number, and its value (0 where it is none)
abbrev pub is_number : List ℕ → Bool
is_number s = is_some (read_number s)

abbrev pub number : List ℕ → ℕ
number s = unwrap_or (read_number s) 0

-- a line of a kind: its first field is the kind's letter
abbrev pub is_of_kind : List ℕ → List ℕ → Bool
is_of_kind letter line = bytes_eq (field 0 line) letter

-- and it has the kind's number of fields
unfoldable pub has_shape : List ℕ → ℕ → List ℕ → Bool
has_shape letter fields line = is_of_kind letter line && field_count line == fields

-- up to twelve bytes, at least one, each a small letter, a digit or a dash
unfoldable pub is_name : List ℕ → Bool
is_name s = nat_le 1 (length s) && nat_le (length s) 12 && list_all is_name_byte s

-- the number lies from low to high
abbrev pub is_within : ℕ → ℕ → ℕ → Bool
is_within low high n = nat_le low n && nat_le n high
