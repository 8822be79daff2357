-- Answers for `latest_end`.
use native.Mathlib.Omega.{arith}
use Rattle.runs.proofs.latest_end.Goals as goal
use Rattle.runs.proofs.Theorem.{answers-bound}
use Rattle.runs.proofs.PromiseLaws.{ended-by}

-- src/lib.rt:15:1
pub returns-clause-bounds : goal.returns-clause-bounds
returns-clause-bounds c s i a z legal n e = ended-by s i c.args.response.0 a z legal n (omega (arith, e))

pub returns-clause-theorem : goal.returns-clause-theorem
returns-clause-theorem c = answers-bound
