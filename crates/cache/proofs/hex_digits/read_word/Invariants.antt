-- Reading on from the number so far gives what all the bytes give.
use Rattle.cache.proofs.HexLaws.{Reading}
use Rattle.cache.proofs.hex_digits.read_word.Given as goal

abbrev pub invariant-loop-b : goal.invariant-loop-b
invariant-loop-b l = Reading l.part l.word l.b-index
