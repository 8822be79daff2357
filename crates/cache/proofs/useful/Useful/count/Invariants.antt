-- `useful::Useful::count`: so many of the levels before l have the cache set.
use Rattle.std.proofs.Common.{◌≡◌, ◌≤◌}
use Rattle.cache.specs.Levels.{heights}
use Rattle.cache.proofs.useful.Useful.count.Given as goal

abbrev pub invariant-loop-l : goal.invariant-loop-l
invariant-loop-l l = (l.n ≡ heights l.l l.self.levels l.s) × (l.n ≤ l.l)
