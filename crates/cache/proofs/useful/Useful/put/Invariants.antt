-- `useful::Useful::put`: a block is put on the levels before l.
use Rattle.std.proofs.Common.{◌≡◌, length}
use Rattle.cache.specs.Words.{members}
use Rattle.cache.specs.Levels.{Puts}
use Rattle.cache.proofs.useful.Useful.put.Given as goal

abbrev pub invariant-loop-l : goal.invariant-loop-l
invariant-loop-l l = (length l.self.levels ≡ 8) × Puts l.fn.from l.l l.fn.self (members l.fn.more) l.self (members l.more)
