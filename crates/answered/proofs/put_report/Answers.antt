-- How it went with the text says how the command ends.
use Rattle.std.proofs.Common.{sym, ◌∙◌}
use Rattle.answered.proofs.Lines.{report_passed, report_unschedulable, report_refused}
use Rattle.answered.proofs.put_report.Goals as goal

pub returns-in-Passed-clause-ending : goal.returns-in-Passed-clause-ending
returns-in-Passed-clause-ending c = report_passed _ (sym c.in-Passed.is ∙ c.print-printed.ensures.outcome)

pub returns-in-SomeUnschedulable-clause-ending : goal.returns-in-SomeUnschedulable-clause-ending
returns-in-SomeUnschedulable-clause-ending c = report_unschedulable _ (sym c.in-SomeUnschedulable.is ∙ c.print-printed.ensures.outcome)

pub returns-in-Refused-clause-ending : goal.returns-in-Refused-clause-ending
returns-in-Refused-clause-ending c = c.refusal_of.ensures ∙ report_refused _ (sym c.in-Refused.is ∙ c.print-printed.ensures.outcome)
