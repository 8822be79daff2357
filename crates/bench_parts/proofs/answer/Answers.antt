-- The first answer of the rows is the first task's.
use Rattle.std.proofs.Common.{ap, ◌∙◌, add-one, arith}
use Rattle.report.proofs.RowAnswers.{rows-hold}
use Rattle.crpd.specs.Codes.{ticks_of}
use Rattle.bench_parts.proofs.answer.Goals as goal

pub loop-preserved : goal.loop-preserved
loop-preserved c =
    let held = rows-hold _ _ c.responses-rows.ensures.rows 0 0 (omega arith) c.args.accepted.accepted.some in
    rw add-one (c.ticks-first.ensures ∙ ap ticks_of held)
