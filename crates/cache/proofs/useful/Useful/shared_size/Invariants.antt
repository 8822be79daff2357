-- `useful::Useful::shared_size`: the levels before l are all among the evicting sets.
use Rattle.std.proofs.Common.{◌≡◌}
use Rattle.cache.specs.Words.{members}
use Rattle.cache.specs.Counts.{◌on◌}
use Rattle.cache.specs.Levels.{heights}
use Rattle.cache.proofs.useful.Useful.shared_size.Given as goal

abbrev pub invariant-loop-l : goal.invariant-loop-l
invariant-loop-l l = (heights l.l l.self.levels on members l.evicting) ≡ heights l.l l.self.levels
