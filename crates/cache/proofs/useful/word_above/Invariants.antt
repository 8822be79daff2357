-- `useful::word_above`: reading on from the number so far gives what all the bytes give.
use Rattle.cache.proofs.DigitLaws.{Reading}
use Rattle.cache.proofs.useful.word_above.Given as goal

abbrev pub invariant-loop-b : goal.invariant-loop-b
invariant-loop-b l = Reading l.l l.part l.word l.b-index
