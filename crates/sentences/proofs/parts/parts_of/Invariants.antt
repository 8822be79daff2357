-- The own execution, the blocking, and the parts of the tasks above j.
use Rattle.std.proofs.Common.{◌≡◌, [], ◌∷◌, map, codes}
use Rattle.search.specs.Positions.{between}
use Rattle.table.specs.Tables.{at}
use Rattle.report.specs.Explanation.{name_at}
use Rattle.sentences.specs.Sums.{told_parts}
use Rattle.sentences.specs.Explained.{sum_part, task_part}
use Rattle.sentences.proofs.parts.parts_of.Given as goal

abbrev pub invariant-loop-j : goal.invariant-loop-j
invariant-loop-j l =
    told_parts l.parts.items
    ≡ sum_part (name_at l.pending.table.now l.pending.i) (codes "its own execution") (at l.pending.table.now l.pending.i).work.0
    ∷ sum_part [] (codes "blocking") l.need.blocker.lasts.0
    ∷ map (task_part l.pending.table.now l.need l.pending.i l.r.0) (between 0 l.j)
