-- `claimed::beside_ours` meets its contract.
use Rattle.laws.proofs.ClaimLaws.{judged-beside-ours}
use Rattle.laws.proofs.claimed.beside_ours.Goals as goal

pub returns : goal.returns
returns c = judged-beside-ours _ _ _ _ _ _ c.judge.ensures.value c.respond.ensures.value c.judge.ensures.means
