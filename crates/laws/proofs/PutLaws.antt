-- A task that is put in, one place after the other.
use Rattle.std.proofs.Common.{ℕ, ◌+◌, ◌<◌, arith, ◌≡◌, ap, map, length, take, drop, get_or, get_or-take}
use Rattle.std.specs.List.{insert}
use Rattle.table.specs.declared.tasks.Task.{Task}
use Rattle.table.specs.declared.accesses.Access.{Access}
use Rattle.table.specs.Accesses.{blank_access}
use Rattle.table.specs.declared.Table.{Table}
use Rattle.table.specs.Tables.{access_at}
use Rattle.table.specs.Accepted.{AcceptedTable}
use Rattle.laws.specs.Added.{moved_by}

module _ (p : ℕ) (task : Task) (table : Table) where
  -- the tasks down to k are put behind it
  pub record Placed (second : Table) (k : ℕ) : Type 0 where
    pub sets : table.sets ≡ second.sets
    pub brt : table.brt ≡ second.brt
    pub form : table.form ≡ second.form
    pub count : second.count ≡ table.count + 1
    pub access-count : second.access_count ≡ table.access_count
    pub accesses : second.accesses ≡ table.accesses
    pub long : length second.tasks ≡ 32
    pub tasks : take (k + 1) second.tasks ≡ insert (take k table.tasks) p task
    pub places : drop (table.count + 1) second.tasks ≡ drop (table.count + 1) table.tasks

  -- and the first n accesses are moved
  pub record Moved (second : Table) (n : ℕ) : Type 0 where
    pub sets : table.sets ≡ second.sets
    pub brt : table.brt ≡ second.brt
    pub form : table.form ≡ second.form
    pub count : second.count ≡ table.count + 1
    pub access-count : second.access_count ≡ table.access_count
    pub tasks : take (table.count + 1) second.tasks ≡ insert (take table.count table.tasks) p task
    pub long : length second.accesses ≡ 32
    pub accesses : take n second.accesses ≡ map (moved_by p) (take n table.accesses)
    pub places : drop (table.count + 1) second.tasks ≡ drop (table.count + 1) table.tasks
    pub access-places : drop table.access_count second.accesses ≡ drop table.access_count table.accesses

-- the positions that an access names are of tasks
pub named-few : (table : Table) → AcceptedTable table → (n : ℕ) → n < table.access_count
    → ((get_or table.accesses n blank_access).task < 32) × ((get_or table.accesses n blank_access).ceiling < 32)
unfolding access_at
named-few table accepted n h =
    let a = accepted.accesses n h in
    let same : access_at table n ≡ get_or table.accesses n blank_access = get_or-take table.access_count table.accesses n blank_access h in (
      omega (arith, ap (λ (b : Access). b.task) same, a.task, accepted.few),
      omega (arith, ap (λ (b : Access). b.ceiling) same, a.task, a.ceiling, accepted.few),
    )
