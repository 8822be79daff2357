use Rattle.bars.specs.Bars.{headings_drawn}
use Rattle.drawn.proofs.Shapes.{put_three}
use Rattle.bars.proofs.draw_headings.Goals as goal

pub returns : goal.returns
unfolding headings_drawn
returns c = put_three c.draw_key.result _ _ _ _ _ _ _ c.in_ok-draw_title.ensures c.in_ok-draw_passing.ensures c.draw_key.ensures
