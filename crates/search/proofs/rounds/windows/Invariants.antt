-- `rounds::windows` meets its contract: the windows before the k-th are made, and the other entries stand.
use Rattle.search.proofs.RoundLaws.{Opening}
use Rattle.search.proofs.rounds.windows.Given as goal

abbrev pub invariant-loop-k : goal.invariant-loop-k
invariant-loop-k l = Opening l.lacks l.step l.first l.k l.initial.entries l.entries
