-- `laws::any_text::written_then_read` meets its contract.
use Rattle.std.proofs.Common.{arith}
use Rattle.laws.proofs.TextLaws.{written-again}
use Rattle.laws.proofs.any_text.written_then_read.Goals as goal

pub returns : goal.returns
returns c = written-again c.args.table.now _ _ (omega arith) _ _ _ _ c.in_ok-len.ensures c.read.ensures.read
