-- `rows::under` meets its contract: an access whose ceiling is at position 0 adds nothing to the terms.
use Rattle.std.proofs.Common.{arith}
use Rattle.analysis.proofs.RowLaws.{weighed-plain}
use Rattle.analysis.proofs.rows.under.Goals as goal

pub by_row-requires-clause-weighed : goal.by_row-requires-clause-weighed
by_row-requires-clause-weighed c = weighed-plain _ _ _ _ (omega arith) c.requires.weighed
