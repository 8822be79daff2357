use Rattle.texts.proofs.Found.{nothing-left}
use Rattle.texts.proofs.lines.Fields.is_done.Goals as goal

pub returns : goal.returns
returns c = nothing-left c.self.inside.rest _ c.self.view_is _ c.is_none.ensures
