-- The headings, and the lines of the tasks so far.
use Rattle.std.proofs.Common.{◌≡◌, ◌∷◌, map}
use Rattle.search.specs.Positions.{between}
use Rattle.table.specs.Tables.{at}
use Rattle.report.specs.VerdictRows.{answers_in}
use Rattle.aligned.specs.Aligned.{shown_lines}
use Rattle.shown.specs.Shown.{heading_cells, task_cells}
use Rattle.shown.proofs.lines.Given as goal

abbrev pub invariant-loop-i : goal.invariant-loop-i
invariant-loop-i l = shown_lines l.lines.items ≡ heading_cells ∷ map (λ k. task_cells (at l.table k) (λ m. answers_in l.rows m k)) (between 0 l.i)
