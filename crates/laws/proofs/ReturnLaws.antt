-- From the promises of `sets` to what two ways of working a set out return.
use Rattle.std.proofs.Common.{◌≡◌, sym, ◌∙◌}
use Rattle.cache.specs.declared.sets.CacheSet.{CacheSet}
use Rattle.cache.specs.Sets.{Set}
use Rattle.cache.specs.Words.{members}
use Rattle.cache.proofs.WordLaws.{WordsInRange, members-inj}
use Rattle.laws.specs.CacheSets.{BothGive}

-- the members determine the words
pub both-give : (A : Set) (one other : CacheSet) → WordsInRange one → WordsInRange other → members one ≡ A → members other ≡ A
    → BothGive A (record { one = one; other = other })
both-give A one other p q e f = record { is = e; same = members-inj one other p q (e ∙ sym f) }
