-- Facts about the columns that are carried down the rows.
use Rattle.std.proofs.Common.{ℕ, ◌+◌, ◌*◌, ◌≤◌, ◌<◌, mul-le-mul, arith, ◌≡◌, refl, sym, subst, ap, ◌∙◌, List, below_more, set, length-set, get_or-set_same, get_or-set_other}
use Rattle.cache.specs.declared.sets.CacheSet.{CacheSet}
use Rattle.cache.specs.Sets.{Set, size}
use Rattle.cache.specs.Words.{members}
use Rattle.cache.proofs.SetLaws.{size-le}
use Rattle.cache.specs.declared.useful.Useful.{Useful}
use Rattle.cache.specs.Counts.{Counts, nothing, ◌⊕◌, capped, ◌on◌, total}
use Rattle.cache.specs.Levels.{counts}
use Rattle.cache.proofs.CountLaws.{capped_left, total-on-le, total-most}
use Rattle.cache.specs.declared.units.Reloads.{Reloads}
use Rattle.table.specs.declared.accesses.Access.{Access}
use Rattle.table.proofs.AddedLaws.{added-above}
use Rattle.search.specs.Positions.{hp}
use Rattle.table.specs.declared.Table.{Table}
use Rattle.table.specs.Tables.{ways_in, at}
use Rattle.table.specs.Accepted.{AcceptedTable}
use Rattle.analysis.specs.declared.costs.Hit.{Hit}
use Rattle.analysis.specs.declared.costs.Single.{Single}
use Rattle.analysis.specs.declared.costs.Single.TheVariants.{None, EcbOnly, UcbOnly, UcbUnion, EcbUnion}
use Rattle.analysis.specs.Gather.{union_of, hit, larger_of}
use Rattle.analysis.specs.Costs.{reloads_in, reloads_with, ucb_of, ecb_of, charge_at, term_with, term_at, term_under}
use Rattle.analysis.proofs.SumLaws.{sum-none, sum-next}
use Rattle.analysis.proofs.HitLaws.{larger-most, hit-none, hit-next, largest-from}
use Rattle.analysis.proofs.CostLaws.{hit-most, counts-few, largest-ucb, largest-share, all-shared}
use Rattle.analysis.specs.declared.carried.Column.{Column}
use Rattle.analysis.specs.declared.carried.Counted.{Counted}
use Rattle.analysis.specs.Carried.{Next, ColumnOf, Small, FewReloadsCounted, count_told, count_of, count_with, no_column, column_in, Ledger, LedgerInRow}

module _ (table : Table) (j : ℕ) where
  -- before the row below it: nothing is gathered, and the first that could be hit is the task below
  pub column-none : (above : CacheSet) (n : Reloads) (nobody : Hit) (all : Useful) → members above ≡ union_of (ecb_of table) (hp (j + 1))
      → n.0 ≡ size (ecb_of table j) * ways_in table → nobody ≡ hit 0 (j + 1) → counts (ways_in table) all ≡ nothing
      → ColumnOf table j (j + 1) (record { above = above; evicting = n; most = nobody; all = all; shared = nobody })
  column-none above n nobody all a e h none = record {
    above = a;
    evicting = e;
    most = h ∙ hit-none (λ k. total (ucb_of table k)) (j + 1);
    all = none ∙ sum-none (ways_in table) (ucb_of table) (j + 1);
    shared = h ∙ hit-none (λ k. total (ucb_of table k on union_of (ecb_of table) (hp (j + 1)))) (j + 1);
  }

  module _ (i : ℕ) (above : j < i) where
    -- one row further
    pub column-next : (c r : Column) (ucb : Counts) → ucb ≡ ucb_of table i → ColumnOf table j i c → Next (ways_in table) c ucb i r → ColumnOf table j (i + 1) r
    column-next c r ucb e p n = record {
      above = ap members n.above ∙ p.above;
      evicting = ap (λ (x : Reloads). x.0) n.evicting ∙ p.evicting;
      most = n.most ∙ hit-next (λ k. total (ucb_of table k)) (j + 1) i _ _ (omega arith) p.most (ap total e);
      all = n.all ∙ sum-next (ways_in table) (ucb_of table) (j + 1) i _ _ (omega arith) p.all e;
      shared = n.shared
          ∙ ap (λ (A : Set). larger_of c.shared (hit (total (ucb on A)) i)) p.above
          ∙ hit-next (λ k. total (ucb_of table k on union_of (ecb_of table) (hp (j + 1)))) (j + 1) i _ _ (omega arith) p.shared
          (ap (λ (U : Counts). total (U on union_of (ecb_of table) (hp (j + 1)))) e);
    }

    module _ (c : Column) (p : ColumnOf table j (i + 1) c) where
      -- the counts of a row below it
      column-count : (m : Single) → count_of (ways_in table) (ecb_of table j) c m ≡ reloads_in (charge_at table m i j)
      column-count None = refl
      column-count EcbOnly = p.evicting
      column-count UcbOnly =
          ap (λ (h : Hit). h.reloads.0) (p.most ∙ largest-from (λ k. total (ucb_of table k)) (j + 1) (i + 1) (omega arith)) ∙ sym (ap reloads_in (largest-ucb table i j))
      column-count UcbUnion = ap (λ (U : Counts). total (U on ecb_of table j)) p.all ∙ sym (ap reloads_in (all-shared table i j))
      column-count EcbUnion =
          ap (λ (h : Hit). h.reloads.0)
          (p.shared ∙ largest-from (λ k. total (ucb_of table k on union_of (ecb_of table) (hp (j + 1)))) (j + 1) (i + 1) (omega arith))
          ∙ sym (ap reloads_in (largest-share table i j))

      pub column-term : (m : Single) → term_with table j (count_of (ways_in table) (ecb_of table j) c m) ≡ term_at table m i j
      unfolding reloads_with
      column-term m = ap (term_with table j) (column-count m)

      -- and while an access blocks
      module _ (a : Access) where
        under-count : (m : Single) → count_with (ways_in table) (ecb_of table j) c (counts (ways_in table) a.ucb) a.task m
            ≡ reloads_with (ways_in table) (ucb_of table) (ecb_of table) (counts (ways_in table) a.ucb) a.task m i j
        unfolding reloads_with
        under-count None = refl
        under-count EcbOnly = p.evicting
        under-count UcbOnly =
            ap (λ (h : Hit). (larger_of h (hit (total (counts (ways_in table) a.ucb)) a.task)).reloads.0)
            (p.most ∙ largest-from (λ k. total (ucb_of table k)) (j + 1) (i + 1) (omega arith))
        under-count UcbUnion =
            ap (λ (U : Counts). total (U on ecb_of table j))
            (ap (λ (U : Counts). capped (ways_in table) (U ⊕ counts (ways_in table) a.ucb)) p.all ∙ capped_left (ways_in table) _ _)
        under-count EcbUnion =
            ap (λ (A : Set). (larger_of c.shared (hit (total (counts (ways_in table) a.ucb on A)) a.task)).reloads.0) p.above
            ∙ ap (λ (h : Hit). (larger_of h (hit (total (counts (ways_in table) a.ucb on union_of (ecb_of table) (hp (j + 1)))) a.task)).reloads.0)
            (p.shared ∙ largest-from (λ k. total (ucb_of table k on union_of (ecb_of table) (hp (j + 1)))) (j + 1) (i + 1) (omega arith))

        pub under-term : (n : Counted) → ((m : Single) → count_told n m ≡ count_with (ways_in table) (ecb_of table j) c (counts (ways_in table) a.ucb) a.task m)
            → j < a.ceiling → (m : Single) → term_with table j (count_told n m) ≡ term_under table a m i j
        under-term n e past m =
            ap (term_with table j)
            (e m ∙ under-count m ∙ ap (λ (X : Counts). reloads_with (ways_in table) (ucb_of table) (ecb_of table) X a.task m i j) (sym (added-above (ways_in table) a j past)))

-- no size is above what all cache sets can hold
total-small : (ways : ℕ) (u : Useful) → ways ≤ 8 → total (counts ways u) ≤ 2048
total-small ways u few = omega (arith, total-most ways (counts ways u) (counts-few ways u))

shared-small : (ways : ℕ) (u : Useful) (E : Set) → ways ≤ 8 → total (counts ways u on E) ≤ 2048
shared-small ways u E few = omega (arith, total-small ways u few, total-on-le (counts ways u) E)

pub column-small : (table : Table) (j i : ℕ) (c : Column) → AcceptedTable table → ColumnOf table j i c → Small c
column-small table j i c accepted p = record {
  evicting = rw p.evicting (mul-le-mul {n₂ = 256} {m₂ = 8} (size-le (ecb_of table j)) accepted.ways.1);
  most = rw p.most (hit-most _ _ _ (λ k. total-small (ways_in table) (at table k).ucb accepted.ways.1));
  shared = rw p.shared (hit-most _ _ _ (λ k. shared-small (ways_in table) (at table k).ucb (union_of (ecb_of table) (hp (j + 1))) accepted.ways.1));
}

-- the counts of a small column, and with one UCB more, are small
pub counted-few : (ways : ℕ) (ecb : Set) (c : Column) (n : Counted) → Small c → n.ucb_union.0 ≤ 2048
    → ((m : Single) → count_told n m ≡ count_of ways ecb c m) → FewReloadsCounted n
counted-few ways ecb c n s u e = record {
  ecb_only = subst (λ (x : ℕ). x ≤ 2048) (sym (e EcbOnly)) s.evicting;
  ucb_only = subst (λ (x : ℕ). x ≤ 2048) (sym (e UcbOnly)) s.most;
  ucb_union = u;
  ecb_union = subst (λ (x : ℕ). x ≤ 2048) (sym (e EcbUnion)) s.shared;
}

pub with-few : (ways : ℕ) (ecb : Set) (c : Column) (ucb : Useful) (k : ℕ) (n : Counted) → ways ≤ 8 → Small c → n.ucb_union.0 ≤ 2048
    → ((m : Single) → count_told n m ≡ count_with ways ecb c (counts ways ucb) k m) → FewReloadsCounted n
with-few ways ecb c ucb k n few s u e = record {
  ecb_only = subst (λ (x : ℕ). x ≤ 2048) (sym (e EcbOnly)) s.evicting;
  ucb_only = subst (λ (x : ℕ). x ≤ 2048) (sym (e UcbOnly)) (larger-most _ _ s.most (total-small ways ucb few));
  ucb_union = u;
  ecb_union = subst (λ (x : ℕ). x ≤ 2048) (sym (e EcbUnion)) (larger-most _ _ s.shared (shared-small ways ucb (members c.above) few));
}

-- ---- inside a row

pub passing-next : (table : Table) (l : List Column) (i j : ℕ) (r : Column) → j < table.count → LedgerInRow table i j l → ColumnOf table j (i + 1) r
    → LedgerInRow table i (j + 1) (set l j r)
passing-next table l i j r few p c = record {
  long = omega (arith, p.long, length-set l j r);
  past = below_more (λ k. ColumnOf table k (i + 1) (column_in (set l j r) k)) j
      (λ k h. rw (get_or-set_other l j k r no_column (λ z. omega arith)) (p.past k h))
      (rw (get_or-set_same l j r no_column (omega (arith, p.long))) c);
  ahead = λ k h b. rw (get_or-set_other l j k r no_column (λ z. omega arith)) (p.ahead k (omega arith) b);
}

-- the task at i gets a column of its own
pub ledger-next : (table : Table) (l : List Column) (i : ℕ) (r : Column) → i < table.count → LedgerInRow table i i l → ColumnOf table i (i + 1) r
    → Ledger table (i + 1) (set l i r)
ledger-next table l i r few p c =
    let q = passing-next table l i i r few p c in record { long = q.long; columns = q.past }
