-- The examples: lists that are permutations, and lists that are none.
use Rattle.std.proofs.Common.{arith, [], ◌∷◌}
use Rattle.search.specs.Positions.{run, hp}
use Rattle.laws.specs.Permutations.{times_in, Permutation}
use Rattle.laws.specs.Examples.{upwards, shuffled}

pub upwards-is : Permutation upwards (hp 4)
unfolding times_in run
upwards-is x = omega arith

pub shuffled-is : Permutation shuffled (hp 4)
unfolding times_in run
shuffled-is x = omega arith

-- one position twice, and one left out
pub twice-is-none : Permutation (2 ∷ 0 ∷ 3 ∷ 1 ∷ 1 ∷ []) (hp 4) → ⊥
unfolding times_in run
twice-is-none p = omega (arith, p 1)

pub left-out-is-none : Permutation (2 ∷ 0 ∷ 3 ∷ []) (hp 4) → ⊥
unfolding times_in run
left-out-is-none p = omega (arith, p 1)
