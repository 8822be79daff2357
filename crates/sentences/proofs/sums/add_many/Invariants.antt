use Rattle.std.proofs.Common.{◌≡◌, ◌++◌, replicate}
use Rattle.sentences.proofs.sums.add_many.Given as goal

abbrev pub invariant-loop-k : goal.invariant-loop-k
invariant-loop-k l = l.out.items ≡ l.initial.out.items ++ replicate l.k l.byte
