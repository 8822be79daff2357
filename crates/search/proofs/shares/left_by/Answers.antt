-- `shares::left_by` meets its contract.
use Rattle.std.proofs.Common.{arith}
use Rattle.search.proofs.ShareLaws.{shares-none, shares-next}
use Rattle.search.proofs.shares.left_by.Goals as goal

pub loop-term-init : goal.loop-term-init
loop-term-init c = omega (arith, shares-none)

pub loop-term-preserved : goal.loop-term-preserved
loop-term-preserved c = omega (arith, shares-next)
