-- By what is read.
use Rattle.crpd.proofs.Steps.{report-accepted, outcome-read}
use Rattle.crpd.proofs.reported.Goals as goal

pub returns : goal.returns
returns c = record {
  reported = report-accepted _ _ c.in_ok-accepted.ensures _ _ _ c.report_in.ensures.reported;
  outcome = rw (outcome-read _ _ c.in_ok-accepted.ensures) c.report_in.ensures.outcome;
}
