use Rattle.texts.proofs.First.{first-byte}
use Rattle.texts.proofs.lines.find.Goals as goal

pub returns : goal.returns
returns c = first-byte _ _ _ c.memchr.ensures
