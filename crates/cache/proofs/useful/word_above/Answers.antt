-- `useful::word_above` meets its contract.
use Rattle.std.proofs.Common.{arith}
use Rattle.cache.proofs.DigitLaws.{begin, ended, room, one_more, byte_in}
use Rattle.cache.proofs.useful.word_above.Goals as goal

pub loop-b-init : goal.loop-b-init
loop-b-init c = begin _ _

pub loop-b-preserved : goal.loop-b-preserved
loop-b-preserved c =
    let r = c.loop-b.invariant in
    one_more r c.loop-b-test.true (byte_in _ _ _ (room r c.loop-b-test.true c.requires.0))

pub returns : goal.returns
returns c = ended c.loop-b.invariant (omega arith)
