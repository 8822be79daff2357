-- `sets::CacheSet::union` meets its contract.
use Rattle.std.proofs.Common.{rules}
use Rattle.cache.proofs.WordLaws.{members-or}
use Rattle.cache.proofs.sets.CacheSet.union.Goals as goal

pub returns : goal.returns
returns c = members-or _ _ (search rules) (search rules)
