-- `claimed::our_own` meets its contract.
use Rattle.laws.proofs.ClaimLaws.{found-of-ours}
use Rattle.laws.proofs.claimed.our_own.Goals as goal

pub returns : goal.returns
returns c = found-of-ours _ _ _ _ _ c.respond-ours.ensures.value c.judge.ensures.value c.judge.ensures.means
