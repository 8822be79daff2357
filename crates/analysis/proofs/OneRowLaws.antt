-- A row is filled from the last task above up to the first.
use Rattle.std.proofs.Common.{ℕ, ◌+◌, ◌≤◌, ◌<◌, eq-or-lt_of_le, arith, ◌≡◌, refl, subst, ap, ◌∙◌, ⊎_elim, List, length, get_or, set, replicate, length-set, get_or-set_same, get_or-set_other, below_more}
use Rattle.std.proofs.lemmas.List.{get_or-replicate}
use Rattle.cache.specs.declared.sets.CacheSet.{CacheSet}
use Rattle.cache.specs.Words.{members}
use Rattle.search.specs.Positions.{hp}
use Rattle.table.specs.Tasks.{no_sets}
use Rattle.table.specs.declared.Table.{Table}
use Rattle.analysis.specs.declared.costs.Charge.{Charge}
use Rattle.analysis.specs.declared.costs.Single.TheVariants.{None}
use Rattle.analysis.specs.Gather.{union_of}
use Rattle.analysis.specs.Costs.{no_victim, ecb_of}
use Rattle.analysis.specs.Row.{charge_in, HoldsCharges, Charged, Evictors}

-- before the first
pub charged-none : {G : ℕ → Charge} {row : List Charge} (i : ℕ) → length row ≡ 32 → HoldsCharges G i i row
charged-none i long = record { long = long; each = λ j h l. absurd (omega arith) }

-- without reloads the row stays as it was made
pub charged-nothing : (table : Table) (i : ℕ) → i ≤ 32 → Charged table None i 0 (replicate 32 (no_victim 0))
charged-nothing table i few = record { long = refl; each = λ j h l. get_or-replicate 32 j (no_victim 0) (no_victim 0) (omega arith) }

-- one more in front
pub tells-front : {G : ℕ → Charge} {row : List Charge} (i from j : ℕ) → j < 32 → from ≡ j + 1 → (g : Charge) → g ≡ G j
    → HoldsCharges G i from row → HoldsCharges G i j (set row j g)
tells-front {G} {row} i from j few next g here p = record {
  long = simp length-set p.long;
  each = λ k h b. ⊎_elim (λ (e : j ≡ k). subst (λ (n : ℕ). charge_in (set row j g) n ≡ G n) e own)
      (λ (l : j < k). get_or-set_other row j k g (no_victim 0) (λ z. omega arith) ∙ p.each k (omega arith) b) (eq-or-lt_of_le h);
}
  where
    own : charge_in (set row j g) j ≡ G j
    own = get_or-set_same row j g (no_victim 0) (omega (arith, p.long)) ∙ here

-- one union of ECBs more
pub evictors-next : {table : Table} {unions : List CacheSet} (j : ℕ) (above : CacheSet) → j < 32 → Evictors table j unions
    → members above ≡ union_of (ecb_of table) (hp (j + 1)) → Evictors table (j + 1) (set unions j above)
evictors-next {table} {unions} j above few p e = record {
  long = simp length-set p.long;
  each = below_more (λ k. members (get_or (set unions j above) k no_sets) ≡ union_of (ecb_of table) (hp (k + 1))) j
      (λ k l. ap members (get_or-set_other unions j k above no_sets (λ z. omega arith)) ∙ p.each k l)
      (ap members (get_or-set_same unions j above no_sets (omega (arith, p.long))) ∙ e);
}
