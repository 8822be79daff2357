-- `response::firsts` meets its contract: the counts before i stand at the front.
use Rattle.std.proofs.Common.{arith}
use Rattle.search.specs.Terms.{term_in}
use Rattle.search.proofs.FrontLaws.{front-none, front-next}
use Rattle.search.specs.Counts.{count, once}
use Rattle.search.proofs.response.firsts.Goals as goal

pub loop-i-init : goal.loop-i-init
loop-i-init c = front-none (count 0 0) _

pub loop-i-preserved : goal.loop-i-preserved
loop-i-preserved c =
    rw c.loop-i.invariant (front-next (count 0 0) (λ j. once (term_in c.args.terms.now j)) c.loop-i.i _ (omega arith) c.once.ensures)
