-- Each turn writes the same report.
use Rattle.report.proofs.RowAnswers.{reportable, report-is}
use Rattle.bench_parts.proofs.Turns.{turn_more}
use Rattle.bench_parts.proofs.write.Goals as goal

pub report-requires : goal.report-requires
report-requires c = reportable _ _ c.responses-rows.ensures.rows c.args.accepted.accepted

pub loop-preserved : goal.loop-preserved
loop-preserved c =
    turn_more c.loop.invariant (rw (report-is _ _ c.responses-rows.ensures.rows) at c.report.ensures.delivered) c.written_len-len.ensures
