-- Two reports of one text agree.
use Rattle.laws.proofs.AnyWorker.{written-calls-agree}
use Rattle.laws.proofs.any_worker.reported_twice.Goals as goal

pub returns : goal.returns
returns c = record { one = c.report.ensures; other = c.report-2.ensures; agree = written-calls-agree c.report.ensures c.report-2.ensures }
