-- The law of sizes, and what is promised of code that works a set out in two ways, or the sizes of that law.
use Rattle.std.specs.Prelude.{◌+◌, ◌≡◌}
use Rattle.cache.specs.Sets.{Set, ◌∪◌, ◌∩◌}
use Rattle.cache.specs.Words.{members}
use Rattle.cache.specs.Counts.{Counts, ◌on◌, total}
use Rattle.laws.specs.declared.any_order.TwoWays.{TwoWays}
use Rattle.laws.specs.declared.any_order.Sizes.{Sizes}

-- of counted useful blocks, those in a union of evicting sets, and those in both, are together those in each
abbrev pub SizesAddUp : Counts → Set → Set → Type 0
SizesAddUp U A B = total (U on (A ∪ B)) + total (U on (A ∩ B)) ≡ total (U on A) + total (U on B)

-- both ways give the set A, by the same four words
pub record BothGive (A : Set) (r : TwoWays) : Type 0 where
  pub is : members r.one ≡ A
  pub same : r.one ≡ r.other

-- these four sizes, and that the law holds of them
pub record SizesOf (U : Counts) (A B : Set) (r : Sizes) : Type 0 where
  pub either : r.either.0 ≡ total (U on (A ∪ B))
  pub both : r.both.0 ≡ total (U on (A ∩ B))
  pub first : r.first.0 ≡ total (U on A)
  pub second : r.second.0 ≡ total (U on B)
  pub law : r.either.0 + r.both.0 ≡ r.first.0 + r.second.0
