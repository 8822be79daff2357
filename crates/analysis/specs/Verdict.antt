-- The verdict of a method: whether every task has a response. In it `answers i` is what the method answers for the task at position i.
use Rattle.std.specs.Prelude.{ℕ, Bool, true, ◌&&◌}
use Rattle.search.specs.declared.demand.Response.{Response}
use Rattle.search.specs.Least.{has_response}
use Rattle.search.specs.Positions.{between, fold_by}

abbrev pub verdict : ℕ → (ℕ → Response) → Bool
verdict count answers = fold_by ◌&&◌ true (λ i. has_response (answers i)) (between 0 count)
