-- What the turns so far leave.
use Rattle.report.specs.Report.{report_in}
use Rattle.bench_parts.specs.Parts.{Repeated}
use Rattle.bench_parts.proofs.write.Given as goal

abbrev pub invariant-loop : goal.invariant-loop
invariant-loop l = Repeated (report_in l.table) l.counter l.fn.out l.len l.out
