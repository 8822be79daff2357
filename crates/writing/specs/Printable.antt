-- Bytes that are printed as they are.
use Rattle.std.specs.Prelude.{ℕ, Bool, ◌&&◌, ◌||◌, ◌==◌, nat_le}

-- a tab, LF, or from the space to `~`
abbrev pub is_printable_byte : ℕ → Bool
is_printable_byte b = b == 9 || b == 10 || nat_le 32 b && nat_le b 126
