-- The rows hold the responses of the table.
use Rattle.std.proofs.Common.{arith, ◌∙◌}
use Rattle.report.proofs.RowAnswers.{every-is, reportable}
use Rattle.shown.proofs.Tables.{shown-is}
use Rattle.shown.proofs.shown_in.Goals as goal

pub lines-requires : goal.lines-requires
lines-requires c = record { reportable = reportable _ _ c.responses-rows.ensures.rows c.args.accepted.accepted }

pub returns-clause-text : goal.returns-clause-text
returns-clause-text c =
    shown-is c.args.accepted.table.now c.responses-rows.result c.responses-rows.ensures.rows (omega (arith, c.args.accepted.accepted.few)) c.args.colours c.verdicts.result c.verdicts.ensures _ _
    c.in_ok-lines.ensures c.as_slice.ensures.value _ c.in_ok-text.ensures

pub returns-clause-passes : goal.returns-clause-passes
returns-clause-passes c = c.every_verdict-passes.ensures ∙ every-is _ _ c.responses-rows.ensures.rows (omega (arith, c.args.accepted.accepted.few))
