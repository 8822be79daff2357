-- One row: what each task above i is charged under a method, at its position in a list of 32 charges.
use Rattle.std.specs.Prelude.{ℕ, ◌+◌, ◌≤◌, ◌<◌, ◌≡◌, List, length, slice_index_or}
use Rattle.cache.specs.declared.sets.CacheSet.{CacheSet}
use Rattle.cache.specs.declared.units.Reloads.{Reloads}
use Rattle.cache.specs.Sets.{Set}
use Rattle.cache.specs.Words.{members}
use Rattle.cache.specs.Counts.{◌on◌, total}
use Rattle.search.specs.Positions.{hp}
use Rattle.table.specs.Tasks.{no_sets}
use Rattle.table.specs.declared.Table.{Table}
use Rattle.analysis.specs.declared.costs.Single.{Single}
use Rattle.analysis.specs.declared.costs.Single.TheVariants.{None, EcbOnly, UcbOnly, UcbUnion, EcbUnion}
use Rattle.analysis.specs.declared.costs.Charge.{Charge}
use Rattle.analysis.specs.Gather.{union_of}
use Rattle.analysis.specs.Costs.{no_victim, ucb_of, ecb_of, charge_at}

-- the charge of the task at j
abbrev pub charge_in : List Charge → ℕ → Charge
charge_in row j = slice_index_or row j (no_victim 0)

-- a list that has these charges of the tasks above i, from the position `from` on
pub record HoldsCharges (G : ℕ → Charge) (i from : ℕ) (row : List Charge) : Type 0 where
  pub long : length row ≡ 32
  pub each : (j : ℕ) → from ≤ j → j < i → charge_in row j ≡ G j

-- those of a table
abbrev pub Charged : Table → Single → ℕ → ℕ → List Charge → Type 0
Charged table m i = HoldsCharges (charge_at table m i) i

-- a row that an access may join: under UCB-Union, where the unions are gathered with the access, only its length is known
abbrev pub ReadyToJoin : Table → Single → ℕ → List Charge → Type 0
ReadyToJoin table None i row = Charged table None i 0 row
ReadyToJoin table EcbOnly i row = Charged table EcbOnly i 0 row
ReadyToJoin table UcbOnly i row = Charged table UcbOnly i 0 row
ReadyToJoin table UcbUnion i row = length row ≡ 32
ReadyToJoin table EcbUnion i row = Charged table EcbUnion i 0 row

-- a list of sets that has, at each position above i, the union of the ECBs down to it
pub record Evictors (table : Table) (i : ℕ) (unions : List CacheSet) : Type 0 where
  pub long : length unions ≡ 32
  pub each : (j : ℕ) → j < i → members (slice_index_or unions j no_sets) ≡ union_of (ecb_of table) (hp (j + 1))

-- how many useful blocks of the task at k these evict; and numbers at the positions, above which no value is
abbrev pub shared_of : Table → Set → ℕ → ℕ
shared_of table ecbs k = total (ucb_of table k on ecbs)

pub record AtMost (F : ℕ → ℕ) (bounds : List Reloads) : Type 0 where
  pub long : length bounds ≡ 32
  pub each : (k : ℕ) → k < 32 → F k ≤ (slice_index_or bounds k (record { 0 = 0 })).0
