-- By what is read.
use Rattle.report.proofs.RowAnswers.{text-passes}
use Rattle.bars.proofs.Reports.{text-drawn}
use Rattle.bars.proofs.picture.Goals as goal

pub returns-in_ok-draw_report-in-Ok-clause-drawn : goal.returns-in_ok-draw_report-in-Ok-clause-drawn
returns-in_ok-draw_report-in-Ok-clause-drawn c =
    text-drawn c.args.text.now c.in-Ok.accepted.table.now c.in-Ok.ensures c.args.name.now _ c.in_ok-draw_report-in-Ok.ensures.drawn

pub returns-in_ok-draw_report-in-Ok-clause-passes : goal.returns-in_ok-draw_report-in-Ok-clause-passes
returns-in_ok-draw_report-in-Ok-clause-passes c = text-passes c.args.text.now c.in-Ok.accepted.table.now c.in-Ok.ensures _ c.in_ok-draw_report-in-Ok.ensures.passes
