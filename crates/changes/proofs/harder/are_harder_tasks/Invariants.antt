-- Each so far is harder.
use Rattle.std.proofs.Common.{◌≡◌, true}
use Rattle.table.specs.Tables.{at}
use Rattle.changes.specs.Relations.{holds_below, is_harder_task}
use Rattle.changes.proofs.harder.are_harder_tasks.Given as goal

abbrev pub invariant-loop-k : goal.invariant-loop-k
invariant-loop-k l = holds_below l.k (λ k. is_harder_task l.ways (at l.first.table.now k) (at l.second.table.now k)) ≡ true
