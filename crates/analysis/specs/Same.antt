-- Tables that are the same as far as a task.
use Rattle.std.specs.Prelude.{ℕ, ◌≤◌, ◌≡◌, map}
use Rattle.table.specs.Tasks.{name_in}
use Rattle.table.specs.declared.accesses.Access.{Access}
use Rattle.table.specs.Accesses.{blocking}
use Rattle.table.specs.declared.Table.{Table}
use Rattle.table.specs.Tables.{ways_in, at, accesses_of}
use Rattle.analysis.specs.declared.need.Need.{Need}

-- an access, whosever it is: its ceiling, its length and its useful blocks
abbrev pub unowned : Access → Access
unowned a = record a { task = 0 }

-- the same ways and block reload time, the same tasks down to i, and the same accesses that may block i, in the same order, whosever they are. What stands below i, and
-- other accesses, may be anything
pub record SameDownTo (i : ℕ) (first second : Table) : Type 0 where
  pub ways : ways_in first ≡ ways_in second
  pub brt : first.brt ≡ second.brt
  pub tasks : (k : ℕ) → k ≤ i → at first k ≡ at second k
  pub accesses : map unowned (blocking i (accesses_of first)) ≡ map unowned (blocking i (accesses_of second))

-- and these accesses are of tasks with the same names
pub record SameNamesDownTo (i : ℕ) (first second : Table) : Type 0 where
  pub same : SameDownTo i first second
  pub owners : map (λ a. name_in (at first a.task)) (blocking i (accesses_of first)) ≡ map (λ a. name_in (at second a.task)) (blocking i (accesses_of second))

-- what a task needs, whosever the access is that blocks it then
abbrev pub unowned_need : Need → Need
unowned_need n = record n { blocker = unowned n.blocker }
