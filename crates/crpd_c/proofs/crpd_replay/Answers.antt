-- A refusal's line is small.
use Rattle.crpd.proofs.Small.{replay-small}
use Rattle.crpd_c.proofs.crpd_replay.Goals as goal

pub code-requires : goal.code-requires
code-requires c = rw c.replay.ensures.value (replay-small _ _)
