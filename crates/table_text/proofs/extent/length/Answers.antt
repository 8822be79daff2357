-- The three parts of the text.
use Rattle.std.proofs.Common.{arith}
use Rattle.table_text.proofs.Lengths.{parts-length}
use Rattle.table_text.proofs.extent.length.Goals as goal

pub returns : goal.returns
returns c = omega (arith, parts-length c.args.table.now)
