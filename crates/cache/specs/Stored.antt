-- Sets that are lent as a list of words, four words for each position.
use Rattle.std.specs.Prelude.{ℕ, ◌+◌, ◌*◌, List, set, slice_index}
use Rattle.cache.specs.declared.sets.CacheSet.{CacheSet}

-- the words of position k
unfoldable pub held_at : List ℕ → ℕ → CacheSet
held_at ws k = record { w0 = slice_index ws (4 * k); w1 = slice_index ws (4 * k + 1); w2 = slice_index ws (4 * k + 2); w3 = slice_index ws (4 * k + 3) }

-- the list with another set at position k
unfoldable pub stored_at : List ℕ → ℕ → CacheSet → List ℕ
stored_at ws k c = set (set (set (set ws (4 * k) c.w0) (4 * k + 1) c.w1) (4 * k + 2) c.w2) (4 * k + 3) c.w3
