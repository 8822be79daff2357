-- With 1 way the definitions over the ways are those of sets.
use Rattle.std.proofs.Common.{ℕ, ◌+◌, arith, ◌≡◌, refl, sym, ap, ap₂, ◌∙◌, List, [], ◌∷◌}
use Rattle.std.proofs.Math.Path.{fun_ext}
use Rattle.cache.specs.Sets.{Set, ∅, ◌∪◌, ◌∩◌, size}
use Rattle.cache.specs.Counts.{Counts, nothing, of_set, ◌⊕◌, capped, ◌on◌, total}
use Rattle.cache.proofs.CountLaws.{capped_left, one-way-size, one-way-shared, one-way-union}
use Rattle.cache.specs.Levels.{counts}
use Rattle.cache.proofs.LevelLaws.{one-level}
use Rattle.search.specs.Positions.{hp, fold_by}
use Rattle.table.specs.declared.Table.{Table}
use Rattle.table.specs.Tables.{ways_in, at}
use Rattle.analysis.specs.declared.costs.Single.{Single}
use Rattle.analysis.specs.declared.costs.Single.TheVariants.{None, EcbOnly, UcbOnly, UcbUnion, EcbUnion}
use Rattle.analysis.specs.declared.costs.Charge.TheVariants.{Victim}
use Rattle.analysis.specs.Gather.{aff, union_of, counts_over, hit, larger_of, largest_at}
use Rattle.analysis.specs.Costs.{no_victim, charge_with, ecb_of, charge_at}
use Rattle.analysis.proofs.CostLaws.{alone}
use Rattle.analysis.specs.OneWay.{plain_charge_with, marks_of}

-- sets of a sum that is capped at 1: from any start
gathered-sets : (U : ℕ → Set) (A : Set) (S : Counts) (ks : List ℕ) → capped 1 S ≡ of_set A
    → capped 1 (fold_by ◌⊕◌ S (λ k. of_set (U k)) ks) ≡ of_set (fold_by ◌∪◌ A U ks)
unfolding fold_by
gathered-sets U A S [] h = h
gathered-sets U A S (k ∷ ks) h =
    gathered-sets U (A ∪ U k) (S ⊕ of_set (U k)) ks
    (sym (capped_left 1 S (of_set (U k))) ∙ ap (λ (X : Counts). capped 1 (X ⊕ of_set (U k))) h ∙ one-way-union A (U k))

start : capped 1 nothing ≡ of_set ∅
unfolding capped nothing of_set ∅
start = refl

module _ (U E : ℕ → Set) (i j : ℕ) where
  summed : capped 1 (counts_over (λ k. of_set (U k)) (aff i j)) ≡ of_set (union_of U (aff i j))
  summed = gathered-sets U ∅ nothing (aff i j) start

  sizes : ◌≡◌ {A = ℕ → ℕ} (λ k. total (of_set (U k))) (λ k. size (U k))
  sizes = fun_ext (λ k. one-way-size (U k))

  shares : ◌≡◌ {A = ℕ → ℕ} (λ k. total (of_set (U k) on union_of E (hp (j + 1)))) (λ k. size (U k ∩ union_of E (hp (j + 1))))
  shares = fun_ext (λ k. one-way-shared (U k) (union_of E (hp (j + 1))))

  pub one-way-with : (X : Set) (n : ℕ) (m : Single) → charge_with 1 (λ k. of_set (U k)) E (of_set X) n m i j ≡ plain_charge_with U E X n m i j
  one-way-with X n None = refl
  one-way-with X n EcbOnly = ap no_victim (omega arith)
  one-way-with X n UcbOnly =
      ap₂ (λ (F : ℕ → ℕ) (x : ℕ). Victim (larger_of (largest_at F (aff i j)) (hit x n))) sizes (one-way-size X)
  one-way-with X n UcbUnion =
      ap (λ (S : Counts). no_victim (total (S on E j)))
      (sym (capped_left 1 (counts_over (λ k. of_set (U k)) (aff i j)) (of_set X)) ∙ ap (λ (S : Counts). capped 1 (S ⊕ of_set X)) summed
      ∙ one-way-union (union_of U (aff i j)) X)
      ∙ ap no_victim (one-way-shared (union_of U (aff i j) ∪ X) (E j))
  one-way-with X n EcbUnion =
      ap₂ (λ (F : ℕ → ℕ) (x : ℕ). Victim (larger_of (largest_at F (aff i j)) (hit x n))) shares (one-way-shared X (union_of E (hp (j + 1))))

none-marked : nothing ≡ of_set ∅
unfolding nothing of_set ∅
none-marked = refl

-- so a table with 1 way, of the old form or not, is charged by the marks of its tasks
pub one-way-table : (table : Table) (m : Single) (i j : ℕ) → ways_in table ≡ 1 → charge_at table m i j ≡ plain_charge_with (marks_of table) (ecb_of table) ∅ 0 m i j
one-way-table table m i j e =
    alone table m i j
    ∙ ap (λ (w : ℕ). charge_with w (λ k. counts w (at table k).ucb) (ecb_of table) nothing 0 m i j) e
    ∙ ap₂ (λ (U : ℕ → Counts) (X : Counts). charge_with 1 U (ecb_of table) X 0 m i j) (fun_ext (λ k. one-level (at table k).ucb.levels)) none-marked
    ∙ one-way-with (marks_of table) (ecb_of table) i j ∅ 0 m
