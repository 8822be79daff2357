-- The invariant of both loops: the bytes before `i` hold no c. A turn of the first passes four of them.
use Rattle.std.proofs.Common.{◌-◌}
use Rattle.texts.proofs.Scan.{Scanned}
use Rattle.texts.proofs.lines.find_tab.Given as goal

abbrev pub invariant-loop-i : goal.invariant-loop-i
invariant-loop-i l = Scanned 9 l.s l.i

abbrev pub decreases-loop-i : goal.decreases-loop-i
decreases-loop-i l = l.n - l.i

abbrev pub invariant-loop-k : goal.invariant-loop-k
invariant-loop-k l = Scanned 9 l.s l.k
