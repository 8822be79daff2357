-- By what is read.
use Rattle.crpd.proofs.Steps.{ticks-accepted}
use Rattle.crpd.proofs.ticks.Goals as goal

pub returns : goal.returns
returns c = ticks-accepted _ _ c.in_ok-accepted.ensures c.in_ok-check.ensures _ _ _ _ c.write.ensures
