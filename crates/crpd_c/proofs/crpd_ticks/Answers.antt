-- A refusal's line is small.
use Rattle.crpd.proofs.Small.{ticks-small, text-small}
use Rattle.crpd_c.proofs.crpd_ticks.Goals as goal

pub code-requires : goal.code-requires
code-requires c = text-small (ticks-small _ _) c.ticks.ensures
