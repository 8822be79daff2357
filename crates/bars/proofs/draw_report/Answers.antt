-- The rows hold the responses of the table.
use Rattle.std.proofs.Common.{refl, arith, ◌∙◌}
use Rattle.report.proofs.RowAnswers.{every-is, reportable}
use Rattle.bars.proofs.Reports.{report-drawn}
use Rattle.bars.proofs.draw_report.Goals as goal

pub draw_tasks-requires : goal.draw_tasks-requires
draw_tasks-requires c = record { reportable = reportable _ _ c.responses-rows.ensures.rows c.args.accepted.accepted }

pub returns-clause-drawn : goal.returns-clause-drawn
returns-clause-drawn c =
    report-drawn c.args.accepted.table.now c.responses-rows.result c.responses-rows.ensures.rows (omega (arith, c.args.accepted.accepted.few)) c.args.name.now c.verdicts.result
    c.verdicts.ensures _ _ _ _ _ _ refl c.in_ok-picture.ensures c.in_ok-raw.ensures c.in_ok-draw_headings.ensures c.in_ok-draw_tasks.ensures c.in_ok-text.ensures

pub returns-clause-passes : goal.returns-clause-passes
returns-clause-passes c = c.every_verdict-passes.ensures ∙ every-is _ _ c.responses-rows.ensures.rows (omega (arith, c.args.accepted.accepted.few))
