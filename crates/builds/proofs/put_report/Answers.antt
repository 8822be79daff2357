-- The rows hold the responses of the table, and the longest report fits.
use Rattle.std.proofs.Common.{◌≡◌, ◌≤◌, length, arith}
use Rattle.report.specs.Report.{report_in}
use Rattle.report.proofs.RowAnswers.{reportable}
use Rattle.builds.proofs.Answers.{is-judged, report-put}
use Rattle.builds.proofs.put_report.Goals as goal

pub report-requires : goal.report-requires
report-requires c = reportable _ _ c.responses-rows.ensures.rows c.args.accepted.accepted

pub returns : goal.returns
returns c =
    let room : 2746 ≤ length c.args.out.now = omega arith in
    let put = report-put _ _ c.responses-rows.ensures.rows c.args.out.now c.report.new.out c.report.result room c.report.ensures in
    let same : length (report_in c.args.accepted.table.now) ≡ c.unwrap-len.result = cc in
    record { put = rw same at put.1; fate = rw c.verdicts.ensures (is-judged _ _ c.responses-rows.ensures.rows (omega (arith, c.args.accepted.accepted.few))) }
