-- The headings, and then a task more each time.
use Rattle.std.proofs.Common.{◌≡◌, ◌++◌, ◌∷◌, [], ap, ◌∙◌, rules}
use Rattle.search.specs.Positions.{run}
use Rattle.table.specs.declared.tasks.Task.{Task}
use Rattle.table.specs.Tables.{at}
use Rattle.report.specs.VerdictRows.{answers_in}
use Rattle.report.proofs.Lines.{task-at}
use Rattle.aligned.specs.Aligned.{shown_lines}
use Rattle.shown.specs.Shown.{heading_cells, task_cells}
use Rattle.shown.proofs.MoreLines.{lines-more}
use Rattle.shown.proofs.lines.Goals as goal

pub loop-i-init : goal.loop-i-init
unfolding run
loop-i-init c =
    let pushed : c.push.new.self.items ≡ [] ++ c.headings.result ∷ [] = search rules in
    ap shown_lines pushed ∙ ap (λ l. l ∷ []) c.headings.ensures

pub task_cells-requires : goal.task_cells-requires
task_cells-requires c =
    rw (task-at c.args.table.now c.loop-i.i c.loop-i-test.true) (c.requires.reportable.accepted.tasks c.loop-i.i c.loop-i-test.true).jitter

pub loop-i-preserved : goal.loop-i-preserved
loop-i-preserved c =
    let table = c.args.table.now in
    let rows = c.args.rows.now in
    let pushed : c.push-in-loop-i.new.self.items ≡ c.loop-i.lines.items ++ c.task_cells.result ∷ [] = search rules in
    lines-more c.loop-i.lines.items c.push-in-loop-i.new.self.items c.task_cells.result heading_cells (λ k. task_cells (at table k) (λ m. answers_in rows m k)) c.loop-i.i pushed
    (c.task_cells.ensures ∙ ap (λ (t : Task). task_cells t (λ m. answers_in rows m c.loop-i.i)) (task-at table c.loop-i.i c.loop-i-test.true))
    c.loop-i.invariant
