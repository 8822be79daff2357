use Rattle.std.specs.Str.Iter.{chars_rest}
use Rattle.drawn.proofs.Texts.{Left}
use Rattle.bars.proofs.without.Given as goal

abbrev pub invariant-loop-k : goal.invariant-loop-k
invariant-loop-k l = Left l.text l._k (chars_rest l.rest)
