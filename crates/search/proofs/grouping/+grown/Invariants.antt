-- `grouping::grown` ends: the round is longer each time, and never too long.
use Rattle.std.proofs.Common.{◌-◌}
use Rattle.search.proofs.grouping.+grown.Given as goal

abbrev pub decreases-grown : goal.decreases-grown
decreases-grown l = 16384 - l.ticks
