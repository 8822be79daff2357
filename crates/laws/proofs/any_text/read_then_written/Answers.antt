-- `laws::any_text::read_then_written` meets its contract.
use Rattle.std.proofs.Common.{arith}
use Rattle.laws.proofs.TextLaws.{comes-back}
use Rattle.laws.proofs.any_text.read_then_written.Goals as goal

pub returns : goal.returns
returns c = comes-back c.args.text.now _ _ _ (omega arith) c.rewrite.ensures
