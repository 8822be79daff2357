-- Each turn writes the same text.
use Rattle.crpd.proofs.Tables.{write-given}
use Rattle.bench_parts.proofs.Turns.{turn_more}
use Rattle.bench_parts.proofs.rewrite.Goals as goal

pub loop-preserved : goal.loop-preserved
loop-preserved c =
    turn_more c.loop.invariant (write-given c.requires c.write.ensures) c.written_len-len.ensures
