-- A task more each time.
use Rattle.std.proofs.Common.{◌++◌, ap₂, ◌∙◌, ℕ}
use Rattle.table.specs.declared.tasks.Task.{Task}
use Rattle.table.specs.Tables.{at}
use Rattle.report.specs.VerdictRows.{answers_in}
use Rattle.report.proofs.Lines.{task-at}
use Rattle.drawn.specs.Svg.{text_so_far}
use Rattle.bars.specs.Bars.{task_top, task_drawn}
use Rattle.bars.proofs.Lists.{tasks-none, tasks-more}
use Rattle.bars.proofs.draw_tasks.Goals as goal

pub loop-i-init : goal.loop-i-init
loop-i-init c = tasks-none _ _

pub draw_task-requires-clause-jitter : goal.draw_task-requires-clause-jitter
draw_task-requires-clause-jitter c =
    rw (task-at c.args.table.now c.loop-i.i c.loop-i-test.true) (c.requires.reportable.accepted.tasks c.loop-i.i c.loop-i-test.true).jitter

pub loop-i-preserved : goal.loop-i-preserved
loop-i-preserved c =
    let answers = answers_in c.args.rows.now in
    let one = λ (i : ℕ). task_drawn (task_top i) (at c.args.table.now i) (λ m. answers m i) in
    tasks-more one (text_so_far c.args.picture.now) (text_so_far c.loop-i.picture) (text_so_far c.draw_task.new.picture) c.loop-i.i
    (c.in_ok-draw_task.ensures
    ∙ ap₂ (λ (top : ℕ) (t : Task). text_so_far c.loop-i.picture ++ task_drawn top t (λ m. answers m c.loop-i.i)) c.top_in.ensures (task-at c.args.table.now c.loop-i.i c.loop-i-test.true))
    c.loop-i.invariant
