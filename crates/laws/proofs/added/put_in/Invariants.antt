-- The tasks down to k are put behind the new one, and then the first n accesses are moved.
use Rattle.laws.proofs.PutLaws.{Placed, Moved}
use Rattle.laws.proofs.added.put_in.Given as goal

abbrev pub invariant-loop-k : goal.invariant-loop-k
invariant-loop-k l = Placed l.added l.fn.task l.table l.second l.k

abbrev pub invariant-loop-n : goal.invariant-loop-n
invariant-loop-n l = Moved l.added l.fn.task l.table l.second l.n
