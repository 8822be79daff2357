-- The bytes of names.
use Rattle.std.specs.Prelude.{ℕ, Bool, ◌&&◌, ◌||◌, nat_le, ◌==◌}
use Rattle.std.specs.Char.{is_ascii_digit}

-- a to z, 0 to 9 and -
abbrev pub is_name_byte : ℕ → Bool
is_name_byte b = nat_le 97 b && nat_le b 122 || is_ascii_digit b || b == 45
