-- A refusal's line is small.
use Rattle.crpd.proofs.Small.{edf-small}
use Rattle.crpd_c.proofs.crpd_edf.Goals as goal

pub code-requires : goal.code-requires
code-requires c = rw c.edf.ensures.value (edf-small _)
