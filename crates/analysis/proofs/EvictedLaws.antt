-- ECB-Union, carried up a row: going up the ECBs get fewer, so what bounded the shares still does.
use Rattle.std.proofs.Common.{ℕ, ◌+◌, ◌≤◌, ◌<◌, le_refl, arith, ◌≡◌, refl, sym, ap, ◌∙◌, List, length, get_or, replicate, set, length-set, get_or-set_same, get_or-set_other}
use Rattle.std.proofs.Math.Decide.{dec_lt}
use Rattle.std.proofs.lemmas.List.{get_or-replicate}
use Rattle.cache.specs.declared.units.Reloads.{Reloads}
use Rattle.cache.specs.Sets.{Set}
use Rattle.cache.specs.Counts.{◌on◌, total}
use Rattle.cache.proofs.CountLaws.{total_mono, total-on-le, total-most, on-mono}
use Rattle.search.specs.Positions.{hp}
use Rattle.table.specs.declared.Table.{Table}
use Rattle.table.specs.Tables.{ways_in, at}
use Rattle.table.specs.Accepted.{AcceptedTable}
use Rattle.analysis.proofs.CostLaws.{counts-few, largest-share}
use Rattle.analysis.specs.declared.costs.Hit.{Hit}
use Rattle.analysis.specs.declared.costs.Single.TheVariants.{EcbUnion}
use Rattle.analysis.specs.declared.costs.Charge.{Charge}
use Rattle.analysis.specs.declared.costs.Charge.TheVariants.{Victim}
use Rattle.analysis.specs.Gather.{aff, union_of, largest_at}
use Rattle.analysis.specs.Costs.{ucb_of, ecb_of}
use Rattle.analysis.proofs.UnionLaws.{union_more}
use Rattle.analysis.specs.Row.{Charged, shared_of, AtMost}
use Rattle.analysis.proofs.OneRowLaws.{charged-none, tells-front}

-- before the next position up: the charges from j on are in the row, and no UCB shares more with the ECBs above j than its bound
pub record Evicted (table : Table) (i j : ℕ) (row : List Charge) (bounds : List Reloads) : Type 0 where
  pub charged : Charged table EcbUnion i j row
  pub bounded : AtMost (shared_of table (union_of (ecb_of table) (hp j))) bounds

abbrev most : Reloads
most = record { 0 = 2048 }

-- what bounds values bounds what is smaller everywhere, too
bound-less : {F : ℕ → ℕ} {bounds : List Reloads} → AtMost F bounds → (G : ℕ → ℕ) → ((k : ℕ) → G k ≤ F k) → AtMost G bounds
bound-less p G h = record { long = p.long; each = λ k l. omega (arith, h k, p.each k l) }

-- and so does one value itself, at its position
pub bound-set : {F : ℕ → ℕ} {bounds : List Reloads} → AtMost F bounds → (k : ℕ) (r : Reloads) → k < 32 → r.0 ≡ F k → AtMost F (set bounds k r)
bound-set {F} {bounds} p k r few e = record { long = simp length-set p.long; each = each }
  where
    each : (l : ℕ) → l < 32 → F l ≤ (get_or (set bounds k r) l (record { 0 = 0 })).0
    each l b =
        elim (dec_lt l k) [
          | yes h ↦ rw (get_or-set_other bounds k l r (record { 0 = 0 }) (λ z. omega arith)) (p.each l b)
          | no h ↦
              elim (dec_lt k l) [
                | yes g ↦ rw (get_or-set_other bounds k l r (record { 0 = 0 }) (λ z. omega arith)) (p.each l b)
                | no g ↦
                    let same : l ≡ k = omega arith in
                    rw (same, get_or-set_same bounds k r (record { 0 = 0 }) (omega (arith, p.long))) (omega arith)
              ]
        ]

module _ {table : Table} (i : ℕ) (few : i < 32) where
  shared-few : AcceptedTable table → (k : ℕ) (E : Set) → total (ucb_of table k on E) ≤ 2048
  shared-few accepted k E =
      omega (arith, accepted.ways.1, total-on-le (ucb_of table k) E, total-most (ways_in table) (ucb_of table k) (counts-few (ways_in table) (at table k).ucb))

  -- no UCB has more than all cache sets can hold
  pub evicted-none : {row : List Charge} → AcceptedTable table → length row ≡ 32 → Evicted table i i row (replicate 32 most)
  evicted-none accepted long = record {
    charged = charged-none i long;
    bounded = record { long = refl; each = λ k l. rw (get_or-replicate {A = Reloads} 32 k most (record { 0 = 0 }) l) (shared-few accepted k _) };
  }

  module _ {row : List Charge} {bounds : List Reloads} (j : ℕ) (some : j < i) (p : Evicted table i (j + 1) row bounds)
      (ecbs : Set) (down : ecbs ≡ union_of (ecb_of table) (hp (j + 1))) where
    -- what the search leaves
    pub evicted-next : {after : List Reloads} (shared : Hit) → shared ≡ largest_at (shared_of table ecbs) (aff i j)
        → AtMost (shared_of table ecbs) after → Evicted table i j (set row j (Victim shared)) after
    evicted-next shared found bounds = record {
      charged = tells-front i (j + 1) j (omega arith) refl (Victim shared) (ap Victim (rw down at found) ∙ sym (largest-share table i j)) p.charged;
      bounded = bound-less (rw down at bounds) (shared_of table (union_of (ecb_of table) (hp j)))
          (λ k. total_mono _ _ (on-mono _ _ _ _ (λ s. le_refl _) (union_more (ecb_of table) 0 j (omega arith))));
    }
