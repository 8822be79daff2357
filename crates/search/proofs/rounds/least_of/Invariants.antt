-- `rounds::least_of` meets its contract: it is no more than any number before i.
use Rattle.std.proofs.Common.{ℕ, ◌≤◌, ◌<◌, get_or}
use Rattle.search.proofs.rounds.least_of.Given as goal

abbrev pub invariant-loop-i : goal.invariant-loop-i
invariant-loop-i l = (k : ℕ) → l.from ≤ k → k < l.i → l.least ≤ get_or l.list k 0
