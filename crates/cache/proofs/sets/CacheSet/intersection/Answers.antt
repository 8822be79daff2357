-- `sets::CacheSet::intersection` meets its contract.
use Rattle.std.proofs.Common.{rules}
use Rattle.cache.proofs.WordLaws.{members-and}
use Rattle.cache.proofs.sets.CacheSet.intersection.Goals as goal

pub returns : goal.returns
returns c = members-and _ _ (search rules) (search rules)
