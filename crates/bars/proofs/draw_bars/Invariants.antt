use Rattle.std.proofs.Common.{◌+◌, ◌*◌}
use Rattle.report.specs.VerdictRows.{answer_under}
use Rattle.drawn.specs.Svg.{text_so_far}
use Rattle.bars.specs.Bars.{method_drawn}
use Rattle.bars.proofs.Lists.{DrawnTo}
use Rattle.bars.proofs.draw_bars.Given as goal

abbrev pub invariant-loop-method : goal.invariant-loop-method
invariant-loop-method l = DrawnTo (λ m. method_drawn l.limit (l.top + 180 * m) m (answer_under l.row m)) (text_so_far l.initial.picture) (text_so_far l.picture) l.method
