-- `shares::listed` meets its contract: the shares before i stand at the front.
use Rattle.std.proofs.Common.{arith}
use Rattle.search.specs.Terms.{term_in}
use Rattle.search.specs.Shares.{share_of}
use Rattle.search.proofs.FrontLaws.{front-none, front-next}
use Rattle.search.proofs.shares.listed.Goals as goal

pub loop-i-init : goal.loop-i-init
loop-i-init c = front-none 0 _

pub loop-i-preserved : goal.loop-i-preserved
loop-i-preserved c =
    rw c.loop-i.invariant (front-next 0 (λ j. share_of (term_in c.args.terms.now j)) c.loop-i.i _ (omega arith) c.share.ensures)
