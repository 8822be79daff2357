-- A refusal's line is small.
use Rattle.crpd.proofs.Small.{checked-small, text-small}
use Rattle.crpd_c.proofs.crpd_check.Goals as goal

pub code-requires : goal.code-requires
code-requires c = text-small (checked-small _ _ _) c.check.ensures
