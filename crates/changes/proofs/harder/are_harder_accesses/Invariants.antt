-- Each so far is harder.
use Rattle.std.proofs.Common.{◌≡◌, true}
use Rattle.table.specs.Tables.{access_at}
use Rattle.changes.specs.Relations.{holds_below, is_harder_access}
use Rattle.changes.proofs.harder.are_harder_accesses.Given as goal

abbrev pub invariant-loop-n : goal.invariant-loop-n
invariant-loop-n l = holds_below l.n (λ n. is_harder_access l.ways (access_at l.first.table.now n) (access_at l.second.table.now n)) ≡ true
