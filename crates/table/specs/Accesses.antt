-- An access to a shared device: whom it may block, and which of its marks an activation can evict.
use Rattle.std.specs.Prelude.{ℕ, Bool, ◌&&◌, List, [], ◌∷◌, filter, if◌then◌else◌, nat_le, nat_lt}
use Rattle.cache.specs.Counts.{Counts, nothing}
use Rattle.cache.specs.Levels.{counts}
use Rattle.table.specs.Tasks.{no_blocks}
use Rattle.table.specs.declared.accesses.Access.{Access}

-- an access may block the task at i where its own task is below i, and its ceiling is i or above
abbrev pub may_block : ℕ → Access → Bool
may_block i a = nat_lt i a.task && nat_le a.ceiling i

-- of these, those that may block the task at i, in their order
abbrev pub blocking : ℕ → List Access → List Access
blocking i accesses = filter (may_block i) accesses

-- some accesses, or this one where there are none
abbrev pub or_else : Access → List Access → List Access
or_else a [] = a ∷ []
or_else a (b ∷ rest) = b ∷ rest

-- what it adds to aff(i, j), where there are so many ways: its UCB where its ceiling is below j, since only then can j pre-empt it, and else nothing
abbrev pub added_by : ℕ → Access → ℕ → Counts
added_by ways a j = if nat_lt j a.ceiling then counts ways a.ucb else nothing

-- what stands past the end of a table's accesses: no statement rests on it
abbrev pub blank_access : Access
blank_access = record { task = 0; ceiling = 0; lasts = record { 0 = 0 }; ucb = record { levels = [] } }

-- what stands in a place of a table that has no access: it takes no time, and nothing of it can be evicted
abbrev pub empty_access : Access
empty_access = record { task = 0; ceiling = 0; lasts = record { 0 = 0 }; ucb = no_blocks }
