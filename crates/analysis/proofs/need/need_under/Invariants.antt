-- The loops' invariants: going on from here gives the largest of all.
use Rattle.analysis.proofs.NeedLaws.{Before, Behind}
use Rattle.analysis.proofs.need.need_under.Given as goal

abbrev pub invariant-loop-n : goal.invariant-loop-n
invariant-loop-n l = Before l.pending.table.now l.method l.pending.i l.start.at l.n l.blocker l.time

abbrev pub invariant-loop-access : goal.invariant-loop-access
invariant-loop-access l = Behind l.pending.table.now l.method l.pending.i l.blocker l.time l.access-iterator
