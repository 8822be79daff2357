-- What the four words of a CacheSet stand for: one number of 256 bits, whose bit s is cache set s.
use Rattle.std.specs.Prelude.{ℕ, ◌+◌, ◌*◌, ◌/◌, ◌%◌, ◌^◌, Bool, ◌&&◌, [], ◌∷◌, ◌==◌, slice_index, bit_and}
use Rattle.cache.specs.declared.sets.CacheSet.{CacheSet}
use Rattle.cache.specs.Sets.{Set}

-- the set that a number says: s is in it where bit s of the number is 1
abbrev pub bits_of : ℕ → Set
bits_of n = λ s. (n / 2 ^ s % 2) == 1

unfoldable pub number_of : CacheSet → ℕ
number_of c = ((c.w3 * 2 ^ 64 + c.w2) * 2 ^ 64 + c.w1) * 2 ^ 64 + c.w0

unfoldable pub members : CacheSet → Set
members c = bits_of (number_of c)

-- word n, which holds the cache sets 64 n to 64 n + 63
unfoldable pub word_of : CacheSet → ℕ → ℕ
word_of c n = slice_index (c.w0 ∷ c.w1 ∷ c.w2 ∷ c.w3 ∷ []) n

-- a set without members, and one of which another has all, told from the words
abbrev pub is_blank : CacheSet → Bool
is_blank c = c.w0 == 0 && c.w1 == 0 && c.w2 == 0 && c.w3 == 0

abbrev pub is_part : CacheSet → CacheSet → Bool
is_part c d = bit_and c.w0 d.w0 == c.w0 && bit_and c.w1 d.w1 == c.w1 && bit_and c.w2 d.w2 == c.w2 && bit_and c.w3 d.w3 == c.w3

-- the words of a number of 256 bits
unfoldable pub words_of : ℕ → CacheSet
words_of n = record {
  w0 = n % 2 ^ 64;
  w1 = n / 2 ^ 64 % 2 ^ 64;
  w2 = n / 2 ^ 64 / 2 ^ 64 % 2 ^ 64;
  w3 = n / 2 ^ 64 / 2 ^ 64 / 2 ^ 64;
}
