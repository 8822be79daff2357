-- `hasten::hasten` meets its contract: the time that the loop has come to is below every solution.
use Rattle.std.proofs.Common.{arith}
use Rattle.search.proofs.LeastLaws.{found, past}
use Rattle.search.proofs.ShareLaws.{full}
use Rattle.search.proofs.hasten.hasten.Goals as goal

pub returns-then-left_by-eq0 : goal.returns-then-left_by-eq0
returns-then-left_by-eq0 c = full _ _ _ _ c.requires.0.ranged c.requires.0.own-least (omega arith)

pub returns-then-limit-r : goal.returns-then-limit-r
returns-then-limit-r c = past _ _ _ c.loop.invariant.0 (omega arith)

pub returns-then-t-r : goal.returns-then-t-r
returns-then-t-r c = found _ _ _ c.loop.invariant.0 (omega arith) (omega arith)
