-- `sets::CacheSet::size` meets its contract.
use Rattle.std.proofs.Common.{rules, arith}
use Rattle.cache.proofs.WordLaws.{size-members}
use Rattle.cache.proofs.sets.CacheSet.size.Goals as goal

pub returns-clause-count : goal.returns-clause-count
returns-clause-count c = omega (arith, size-members c.args.self (search rules))
