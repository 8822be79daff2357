-- What an access adds for a task above its ceiling, and for another.
use Rattle.std.proofs.Common.{ℕ, ◌≤◌, ◌<◌, ◌≡◌, lt-ltb, le-ltb}
use Rattle.cache.specs.Counts.{nothing}
use Rattle.cache.specs.Levels.{counts}
use Rattle.table.specs.declared.accesses.Access.{Access}
use Rattle.table.specs.Accesses.{added_by}

pub added-above : (ways : ℕ) (a : Access) (j : ℕ) → j < a.ceiling → added_by ways a j ≡ counts ways a.ucb
added-above ways a j h = simp (lt-ltb j a.ceiling h)

pub added_none : (ways : ℕ) (a : Access) (j : ℕ) → a.ceiling ≤ j → added_by ways a j ≡ nothing
added_none ways a j h = simp (le-ltb j a.ceiling h)
