-- One range more.
use Rattle.std.proofs.Common.{rules}
use Rattle.spelling.specs.Spelling.{unseen}
use Rattle.spelling.proofs.Seen.{any-next}
use Rattle.spelling.proofs.is_seen.Goals as goal

pub loop-range-preserved : goal.loop-range-preserved
loop-range-preserved c = any-next _ unseen c.loop-range.range-index _ _ (search rules) c.if-range-code.false c.loop-range.invariant
