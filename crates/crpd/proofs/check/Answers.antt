-- By what is read.
use Rattle.crpd.proofs.Steps.{check-accepted}
use Rattle.crpd.proofs.check.Goals as goal

pub returns : goal.returns
returns c = check-accepted _ _ c.in_ok-accepted.ensures _ _ c.in_ok-method.ensures _ _ c.in_ok-claimed.ensures.claimed _ _ _ c.write.ensures
