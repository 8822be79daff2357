-- By what is read.
use Rattle.report.proofs.RowAnswers.{text-passes}
use Rattle.shown.proofs.Texts.{text-shown}
use Rattle.shown.proofs.report_shown.Goals as goal

pub returns-in_ok-shown_in-in-Ok-clause-shown : goal.returns-in_ok-shown_in-in-Ok-clause-shown
returns-in_ok-shown_in-in-Ok-clause-shown c = text-shown c.args.text.now c.in-Ok.accepted.table.now c.in-Ok.ensures c.args.colours _ c.in_ok-shown_in-in-Ok.ensures.text

pub returns-in_ok-shown_in-in-Ok-clause-passes : goal.returns-in_ok-shown_in-in-Ok-clause-passes
returns-in_ok-shown_in-in-Ok-clause-passes c = text-passes c.args.text.now c.in-Ok.accepted.table.now c.in-Ok.ensures _ c.in_ok-shown_in-in-Ok.ensures.passes
