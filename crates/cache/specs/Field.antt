-- What a field of cache sets says: one hex digit for each four of the table's sets, the highest four first. The digits spell a number, and
-- its bit s tells of cache set s.
use Rattle.std.specs.Prelude.{ℕ, ◌/◌, ◌&&◌, List, length, Option, None, option_map, if◌then◌else◌, nat_le, ◌==◌}
use Rattle.cache.specs.Hex.{read_hex}
use Rattle.cache.specs.declared.sets.CacheSet.{CacheSet}
use Rattle.cache.specs.Words.{words_of}

-- what a field says in a table with so many cache sets: the set of its number, or nothing
unfoldable pub read_set : ℕ → List ℕ → Option CacheSet
unfolding read_hex
read_set sets f = if nat_le sets 256 && length f == (sets / 4) then option_map words_of (read_hex 0 f) else None
