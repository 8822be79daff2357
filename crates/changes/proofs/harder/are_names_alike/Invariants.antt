-- Each so far is named alike.
use Rattle.std.proofs.Common.{◌≡◌, true}
use Rattle.table.specs.Tables.{at}
use Rattle.changes.specs.Relations.{holds_below, is_named_alike}
use Rattle.changes.proofs.harder.are_names_alike.Given as goal

abbrev pub invariant-loop-k : goal.invariant-loop-k
invariant-loop-k l = holds_below l.k (λ k. is_named_alike (at l.first.table.now k) (at l.second.table.now k)) ≡ true
