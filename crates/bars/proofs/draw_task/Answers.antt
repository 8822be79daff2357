use Rattle.std.proofs.Common.{ap, ◌∙◌, ◌++◌, ◌+◌, ℕ}
use Rattle.report.specs.VerdictRows.{answer_under}
use Rattle.drawn.specs.Svg.{text_so_far}
use Rattle.bars.specs.Bars.{bars_drawn, task_drawn}
use Rattle.drawn.proofs.Shapes.{put_five}
use Rattle.bars.proofs.draw_task.Goals as goal

pub returns : goal.returns
unfolding task_drawn
returns c =
    put_five c.draw_edge-2.result _ _ _ _ _ _ _ _ _ _ _ c.in_ok-draw_name.ensures c.in_ok-draw_limit.ensures c.in_ok-draw_edge.ensures
    (c.in_ok-draw_bars.ensures
    ∙ ap (λ (limit : ℕ). text_so_far c.draw_edge.new.picture ++ bars_drawn limit (c.args.top + 260) (answer_under c.args.row.now)) c.limit_of-limit.ensures) c.draw_edge-2.ensures
