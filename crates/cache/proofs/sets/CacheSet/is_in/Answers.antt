-- `sets::CacheSet::is_in` meets its contract.
use Rattle.std.proofs.Common.{rules}
use Rattle.cache.proofs.WordLaws.{part-shared}
use Rattle.cache.proofs.sets.CacheSet.is_in.Goals as goal

pub returns-clause-meant : goal.returns-clause-meant
returns-clause-meant c = λ e. part-shared _ _ (search rules) (search rules) e
