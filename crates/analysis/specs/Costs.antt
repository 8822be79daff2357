-- Reload counts with whom they hit, and what the tasks of higher priority ask for.
use Rattle.std.specs.Prelude.{ℕ, ◌+◌, ◌*◌}
use Rattle.cache.specs.Sets.{Set, size}
use Rattle.cache.specs.Words.{members}
use Rattle.cache.specs.Counts.{Counts, ◌⊕◌, capped, ◌on◌, total}
use Rattle.cache.specs.Levels.{counts}
use Rattle.search.specs.Positions.{hp}
use Rattle.search.specs.declared.demand.Term.{Term}
use Rattle.search.specs.Demand.{term_of}
use Rattle.table.specs.declared.accesses.Access.{Access}
use Rattle.table.specs.Accesses.{added_by, empty_access}
use Rattle.table.specs.declared.Table.{Table}
use Rattle.table.specs.Tables.{ways_in, at}
use Rattle.analysis.specs.declared.costs.Hit.{Hit}
use Rattle.analysis.specs.declared.costs.Single.{Single}
use Rattle.analysis.specs.declared.costs.Single.TheVariants.{None, EcbOnly, UcbOnly, UcbUnion, EcbUnion}
use Rattle.analysis.specs.declared.costs.Charge.{Charge}
use Rattle.analysis.specs.declared.costs.Charge.TheVariants.{Victim, NoVictim}
use Rattle.analysis.specs.Gather.{aff, union_of, counts_over, hit, larger_of, largest_at}

-- a count that is not that of a single task
abbrev pub no_victim : ℕ → Charge
no_victim n = NoVictim (record { 0 = n })

-- g(i, j) under each method, where a cache set has so many ways, U k are the useful blocks of the task at k, E k is its ECB, and aff(i, j) has one member more: the
-- useful blocks X, of the task at n. Under UCB-Only and ECB-Union with the task that it hits, which is that of X only where its value is above that of every other:
-- so nothing, as X, changes nothing
abbrev pub charge_with : ℕ → (ℕ → Counts) → (ℕ → Set) → Counts → ℕ → Single → ℕ → ℕ → Charge
charge_with ways U E X n None i j = no_victim 0
charge_with ways U E X n EcbOnly i j = no_victim (size (E j) * ways)
charge_with ways U E X n UcbOnly i j = Victim (larger_of (largest_at (λ k. total (U k)) (aff i j)) (hit (total X) n))
charge_with ways U E X n UcbUnion i j = no_victim (total (capped ways (counts_over U (aff i j) ⊕ X) on E j))
charge_with ways U E X n EcbUnion i j =
    Victim (larger_of (largest_at (λ k. total (U k on union_of E (hp (j + 1)))) (aff i j)) (hit (total (X on union_of E (hp (j + 1)))) n))

-- how many reloads a charge has
abbrev pub reloads_in : Charge → ℕ
reloads_in (Victim h) = h.reloads.0
reloads_in (NoVictim n) = n.0

-- g(i, j) alone
unfoldable pub reloads_with : ℕ → (ℕ → Counts) → (ℕ → Set) → Counts → ℕ → Single → ℕ → ℕ → ℕ
reloads_with ways U E X n m i j = reloads_in (charge_with ways U E X n m i j)

-- a charge with one more task that may be hit, where it is the count of a single task
abbrev pub with_hit : Charge → Hit → Charge
with_hit (Victim h) other = Victim (larger_of h other)
with_hit (NoVictim n) other = NoVictim n

-- ---- of a table's tasks

abbrev pub ucb_of : Table → ℕ → Counts
ucb_of table k = counts (ways_in table) (at table k).ucb

abbrev pub ecb_of : Table → ℕ → Set
ecb_of table k = members (at table k).ecb

-- what the task at j asks for, with n reloads in its weight: its own work, and their time
abbrev pub term_with : Table → ℕ → ℕ → Term
term_with table j n = term_of (at table j).period.0 (at table j).jitter.0 ((at table j).work.0 + table.brt.0 * n)

-- what an activation of the task at j is charged while i is pending and an access blocks it, and what that task asks for
abbrev pub charge_under : Table → Access → Single → ℕ → ℕ → Charge
charge_under table a m i j = charge_with (ways_in table) (ucb_of table) (ecb_of table) (added_by (ways_in table) a j) a.task m i j

abbrev pub term_under : Table → Access → Single → ℕ → ℕ → Term
term_under table a m i j = term_with table j (reloads_with (ways_in table) (ucb_of table) (ecb_of table) (added_by (ways_in table) a j) a.task m i j)

-- the same while nothing blocks i: this access adds nothing to aff(i, j)
abbrev pub charge_at : Table → Single → ℕ → ℕ → Charge
charge_at table = charge_under table empty_access

abbrev pub term_at : Table → Single → ℕ → ℕ → Term
term_at table = term_under table empty_access
