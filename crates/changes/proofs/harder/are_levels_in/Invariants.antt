-- None of the levels so far has more.
use Rattle.changes.proofs.Levels.{NoMoreTo}
use Rattle.changes.proofs.harder.are_levels_in.Given as goal

abbrev pub invariant-loop-l : goal.invariant-loop-l
invariant-loop-l l = NoMoreTo l.l l.first.levels l.second.levels
