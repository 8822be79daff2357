-- The tasks so far.
use Rattle.std.proofs.Common.{◌≡◌, ◌++◌}
use Rattle.std.specs.Prelude.{flat_map}
use Rattle.search.specs.Positions.{between}
use Rattle.table.specs.Tables.{at}
use Rattle.report.specs.VerdictRows.{answers_in}
use Rattle.drawn.specs.Svg.{text_so_far}
use Rattle.bars.specs.Bars.{task_top, task_drawn}
use Rattle.bars.proofs.draw_tasks.Given as goal

abbrev pub invariant-loop-i : goal.invariant-loop-i
invariant-loop-i l =
    text_so_far l.picture ≡ text_so_far l.initial.picture ++ flat_map (λ i. task_drawn (task_top i) (at l.table i) (λ m. answers_in l.rows m i)) (between 0 l.i)
