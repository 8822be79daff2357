-- The first k bytes are those of the numbers.
use Rattle.std.proofs.Common.{◌≡◌, ℕ, ◌%◌, List, map, length, take, get_or}
use Rattle.search.specs.Positions.{between}
use Rattle.test_values.proofs.name_from.Given as goal

abbrev pub byte_of : List ℕ → ℕ → ℕ
byte_of ns k = get_or ns k 0 % 256

abbrev pub invariant-loop-k : goal.invariant-loop-k
invariant-loop-k l = (take l.k l.bytes ≡ map (byte_of l.numbers) (between 0 l.k)) × (length l.bytes ≡ 12)
