-- `one_row::charged` meets its contract: each arm fills the row of its method.
use Rattle.std.proofs.Common.{arith}
use Rattle.analysis.proofs.OneRowLaws.{charged-nothing}
use Rattle.analysis.proofs.one_row.charged.Goals as goal

pub returns-in-None : goal.returns-in-None
returns-in-None c = rw c.in-None.is (charged-nothing c.args.pending.table.now c.args.pending.i (omega (arith, c.args.pending.accepted.few, c.args.pending.held)))
