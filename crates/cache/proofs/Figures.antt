-- The definitions compute: worked figures.
use Rattle.std.proofs.Common.{◌≡◌, refl, [], ◌∷◌, ◌^◌, ◌-◌}
use Rattle.cache.specs.Hex.{hex_digit, read_hex}
use Rattle.cache.specs.Sets.{◌∩◌, size_below, size}
use Rattle.cache.specs.Words.{bits_of, words_of}
use Rattle.cache.specs.Field.{read_set}
use Rattle.std.specs.Prelude.{Some, None}

-- the field 3c of 8 sets
pub field-3c : read_set 8 (51 ∷ 99 ∷ []) ≡ Some (record { w0 = 0x3c; w1 = 0; w2 = 0; w3 = 0 })
unfolding read_set read_hex hex_digit words_of
field-3c = refl

pub field-short : read_set 8 (51 ∷ []) ≡ None
unfolding read_set read_hex hex_digit
field-short = refl

pub shared-3c-0f : size (bits_of 0x3c ∩ bits_of 0x0f) ≡ 2
unfolding size size_below ◌∩◌
shared-3c-0f = refl

pub all-256 : size (bits_of (2 ^ 256 - 1)) ≡ 256
unfolding size size_below
all-256 = refl
