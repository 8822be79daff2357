-- What a charge is where each cache set has 1 way and useful blocks are marked by sets: unions and sizes of sets alone. proofs/OneWay.antt has that the
-- definitions over the ways come to this with 1 way.
use Rattle.std.specs.Prelude.{ℕ, ◌+◌}
use Rattle.cache.specs.Sets.{Set, ◌∪◌, ◌∩◌, size}
use Rattle.cache.specs.Levels.{level}
use Rattle.search.specs.Positions.{hp}
use Rattle.table.specs.declared.Table.{Table}
use Rattle.table.specs.Tables.{at}
use Rattle.analysis.specs.declared.costs.Single.{Single}
use Rattle.analysis.specs.declared.costs.Single.TheVariants.{None, EcbOnly, UcbOnly, UcbUnion, EcbUnion}
use Rattle.analysis.specs.declared.costs.Charge.{Charge}
use Rattle.analysis.specs.declared.costs.Charge.TheVariants.{Victim}
use Rattle.analysis.specs.Gather.{aff, union_of, hit, larger_of, largest_at}
use Rattle.analysis.specs.Costs.{no_victim}

-- g(i, j) where U k and E k are the UCB and the ECB of the task at k, and aff(i, j) has one member more: the set X, of the task at n
abbrev pub plain_charge_with : (ℕ → Set) → (ℕ → Set) → Set → ℕ → Single → ℕ → ℕ → Charge
plain_charge_with U E X n None i j = no_victim 0
plain_charge_with U E X n EcbOnly i j = no_victim (size (E j))
plain_charge_with U E X n UcbOnly i j = Victim (larger_of (largest_at (λ k. size (U k)) (aff i j)) (hit (size X) n))
plain_charge_with U E X n UcbUnion i j = no_victim (size ((union_of U (aff i j) ∪ X) ∩ E j))
plain_charge_with U E X n EcbUnion i j =
    Victim (larger_of (largest_at (λ k. size (U k ∩ union_of E (hp (j + 1)))) (aff i j)) (hit (size (X ∩ union_of E (hp (j + 1)))) n))

-- the cache sets that hold a useful block of the task at k
abbrev pub marks_of : Table → ℕ → Set
marks_of table k = level (at table k).ucb.levels 0
