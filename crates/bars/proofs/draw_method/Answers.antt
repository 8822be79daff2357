use Rattle.bars.specs.Bars.{method_drawn}
use Rattle.drawn.proofs.Shapes.{put_three}
use Rattle.bars.proofs.draw_method.Goals as goal

pub returns : goal.returns
unfolding method_drawn
returns c = put_three c.draw_response.result _ _ _ _ _ _ _ c.in_ok-name_method.ensures c.in_ok-draw_bar.ensures c.draw_response.ensures
