-- A verdict is asked of the rows one by one.
use Rattle.std.proofs.Common.{◌∙◌}
use Rattle.report.proofs.VerdictParts.{all_respond}
use Rattle.report.proofs.verdicts.verdict.Goals as goal

pub returns : goal.returns
returns c = c.all_respond.ensures ∙ all_respond c.args.rows.now c.args.m
