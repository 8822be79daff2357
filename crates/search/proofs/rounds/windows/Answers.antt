-- `rounds::windows` meets its contract: all windows are made when the loop ends.
use Rattle.std.proofs.Common.{arith}
use Rattle.search.proofs.RoundLaws.{opened}
use Rattle.search.proofs.rounds.windows.Goals as goal

pub returns : goal.returns
returns c = opened _ _ _ _ _ _ c.requires.0 c.requires.3 _ c.loop-k-test.false (omega arith) c.loop-k.invariant
