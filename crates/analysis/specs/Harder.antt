-- A table that is harder than another.
use Rattle.std.specs.Prelude.{ℕ, suc, ◌≤◌, ◌<◌, ◌≡◌}
use Rattle.cache.specs.Sets.{◌⊆◌}
use Rattle.cache.specs.Words.{members}
use Rattle.cache.specs.Counts.{◌≼◌}
use Rattle.cache.specs.Levels.{counts}
use Rattle.table.specs.declared.tasks.Task.{Task}
use Rattle.table.specs.declared.accesses.Access.{Access}
use Rattle.table.specs.declared.Table.{Table}
use Rattle.table.specs.Tables.{ways_in, at, access_at}

-- where there are so many ways: no less work and jitter, no longer a period and a deadline, no fewer useful blocks in any cache set, and every
-- evicting set of the other
pub record HarderTask (ways : ℕ) (a b : Task) : Type 0 where
  pub work : a.work.0 ≤ b.work.0
  pub period : b.period.0 ≤ a.period.0
  pub deadline : b.deadline.0 ≤ a.deadline.0
  pub jitter : a.jitter.0 ≤ b.jitter.0
  pub ucb : counts ways a.ucb ≼ counts ways b.ucb
  pub ecb : members a.ecb ⊆ members b.ecb

-- an access of the task and with the ceiling at the places of the other's, no shorter, and with no fewer useful blocks in any cache set
pub record HarderAccess (ways : ℕ) (place : ℕ → ℕ) (a b : Access) : Type 0 where
  pub task : b.task ≡ place a.task
  pub ceiling : b.ceiling ≡ place a.ceiling
  pub lasts : a.lasts.0 ≤ b.lasts.0
  pub ucb : counts ways a.ucb ≼ counts ways b.ucb

-- position by position, with the same ways and equally many tasks and cache sets, and no smaller a block reload time; and access by access, with equally many of them
pub record Harder (first second : Table) : Type 0 where
  pub count : first.count ≡ second.count
  pub sets : first.sets ≡ second.sets
  pub ways : ways_in first ≡ ways_in second
  pub brt : first.brt.0 ≤ second.brt.0
  pub tasks : (k : ℕ) → k < first.count → HarderTask (ways_in first) (at first k) (at second k)
  pub access-count : first.access_count ≡ second.access_count
  pub accesses : (n : ℕ) → n < first.access_count → HarderAccess (ways_in first) (λ k. k) (access_at first n) (access_at second n)

-- as far as i: each task of the first table has a harder one in the second, in the same order, that at k at place k; and so has each access
pub record HarderBy (place : ℕ → ℕ) (i : ℕ) (first second : Table) : Type 0 where
  pub rises : (k : ℕ) → place k < place (suc k)
  pub ways : ways_in first ≡ ways_in second
  pub brt : first.brt.0 ≤ second.brt.0
  pub held : (k : ℕ) → k ≤ i → place k < second.count
  pub tasks : (k : ℕ) → k ≤ i → HarderTask (ways_in first) (at first k) (at second (place k))
  pub access-count : first.access_count ≡ second.access_count
  pub accesses : (n : ℕ) → n < first.access_count → HarderAccess (ways_in first) place (access_at first n) (access_at second n)
