-- `hasten::by_rounds` meets its contract: the time that the loop has come to is below every solution.
use Rattle.std.proofs.Common.{arith}
use Rattle.search.proofs.LeastLaws.{found, past}
use Rattle.search.proofs.hasten.by_rounds.Goals as goal

pub returns-then-t-r : goal.returns-then-t-r
returns-then-t-r c = found _ _ _ c.loop-r.invariant.0 (omega arith) (omega arith)

pub returns : goal.returns
returns c = past _ _ _ c.loop-r.invariant.0 (omega arith)
