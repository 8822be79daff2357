-- `useful::Useful::size_in`: the sum is that of the levels before l.
use Rattle.std.proofs.Common.{◌≡◌, ◌*◌, ◌≤◌}
use Rattle.cache.specs.Words.{members}
use Rattle.cache.specs.Counts.{◌on◌, total}
use Rattle.cache.specs.Levels.{heights}
use Rattle.cache.proofs.useful.Useful.size_in.Given as goal

abbrev pub invariant-loop-l : goal.invariant-loop-l
invariant-loop-l l = (l.sum ≡ total (heights l.l l.self.levels on members l.evicting)) × (l.sum ≤ 256 * l.l)
