-- Facts about reload counts.
use Rattle.std.proofs.Common.{ℕ, ◌+◌, ◌≤◌, max, zero-le, mul-le-mul, arith, ◌≡◌, refl, sym, ap, ◌∙◌, Bool, true, false, cond, ltb, List}
use Rattle.cache.specs.Sets.{Set}
use Rattle.cache.proofs.SetLaws.{size-le}
use Rattle.cache.specs.declared.useful.Useful.{Useful}
use Rattle.cache.specs.Counts.{Counts, nothing, capped, ◌on◌, total}
use Rattle.cache.specs.Levels.{counts}
use Rattle.cache.proofs.CountLaws.{add_comm, nothing-add, total-nothing, total-on-le, total-most, capped_le}
use Rattle.cache.proofs.LevelLaws.{heights-le}
use Rattle.search.specs.Positions.{hp}
use Rattle.search.proofs.PositionLaws.{fold-keeps}
use Rattle.table.specs.declared.accesses.Access.{Access}
use Rattle.table.specs.Accesses.{added_by, empty_access}
use Rattle.table.proofs.AddedLaws.{added_none}
use Rattle.table.specs.declared.Table.{Table}
use Rattle.table.specs.Tables.{ways_in, at}
use Rattle.table.specs.Accepted.{AcceptedTable}
use Rattle.analysis.specs.declared.costs.Single.{Single}
use Rattle.analysis.specs.declared.costs.Single.TheVariants.{None, EcbOnly, UcbOnly, UcbUnion, EcbUnion}
use Rattle.analysis.specs.declared.costs.Charge.TheVariants.{Victim}
use Rattle.analysis.specs.Gather.{aff, union_of, counts_over, hit, larger_of, largest_from, largest_at}
use Rattle.analysis.specs.Costs.{no_victim, charge_with, reloads_with, ucb_of, ecb_of, charge_at, charge_under}
use Rattle.analysis.proofs.HitLaws.{larger-first, larger-most, largest-count}

-- no largest value is above what each value is not above
pub hit-most : (p : ℕ) (F : ℕ → ℕ) (ks : List ℕ) {most : ℕ} → ((k : ℕ) → F k ≤ most) → (largest_from p F ks).reloads.0 ≤ most
hit-most p F ks {most} h = rw (largest-count p F ks) (fold-keeps max (λ b. b ≤ most) 0 F ks (omega arith) (λ b k q. omega (arith, h k)))

-- with nothing one member more changes nothing
module _ (ways : ℕ) (U : ℕ → Counts) (E : ℕ → Set) (i j : ℕ) where
  -- the largest value is that of the others
  not-hit : (F : ℕ → ℕ) (x n : ℕ) → x ≤ 0 → Victim (larger_of (largest_at F (aff i j)) (hit x n)) ≡ Victim (largest_at F (aff i j))
  not-hit F x n none = ap Victim (larger-first (largest_at F (aff i j)) (hit x n) (omega arith))

  pub ucb-only-alone : (n : ℕ) → charge_with ways U E nothing n UcbOnly i j ≡ Victim (largest_at (λ k. total (U k)) (aff i j))
  ucb-only-alone n = not-hit _ _ n (omega (arith, total-nothing))

  pub ucb-union-alone : (n : ℕ) → charge_with ways U E nothing n UcbUnion i j ≡ no_victim (total (capped ways (counts_over U (aff i j)) on E j))
  ucb-union-alone n = ap (λ (S : Counts). no_victim (total (capped ways S on E j))) (add_comm _ nothing ∙ nothing-add _)

  pub ecb-union-alone : (n : ℕ) → charge_with ways U E nothing n EcbUnion i j ≡ Victim (largest_at (λ k. total (U k on union_of E (hp (j + 1)))) (aff i j))
  ecb-union-alone n = not-hit _ _ n (omega (arith, total-nothing, total-on-le nothing (union_of E (hp (j + 1)))))

  -- so it does not matter whose it is
  pub nobodys : (n k : ℕ) (m : Single) → charge_with ways U E nothing n m i j ≡ charge_with ways U E nothing k m i j
  nobodys n k None = refl
  nobodys n k EcbOnly = refl
  nobodys n k UcbOnly = ucb-only-alone n ∙ sym (ucb-only-alone k)
  nobodys n k UcbUnion = refl
  nobodys n k EcbUnion = ecb-union-alone n ∙ sym (ecb-union-alone k)

-- no reload count is above what all cache sets can hold
module _ (ways : ℕ) (U : ℕ → Counts) (E : ℕ → Set) (i j : ℕ) (few : ways ≤ 8) (u : (k s : ℕ) → U k s ≤ ways) where
  total-few : (X : Counts) → ((s : ℕ) → X s ≤ ways) → total X ≤ 2048
  total-few X x = omega (arith, total-most ways X x)

  on-few : (X : Counts) (A : Set) → ((s : ℕ) → X s ≤ ways) → total (X on A) ≤ 2048
  on-few X A x = omega (arith, total-few X x, total-on-le X A)

  pub with-most : (X : Counts) → ((s : ℕ) → X s ≤ ways) → (n : ℕ) (m : Single) → reloads_with ways U E X n m i j ≤ 2048
  unfolding reloads_with
  with-most X x n None = omega arith
  with-most X x n EcbOnly = mul-le-mul {n₂ = 256} {m₂ = 8} (size-le (E j)) few
  with-most X x n UcbOnly = larger-most _ _ (hit-most _ _ (aff i j) (λ k. total-few (U k) (u k))) (total-few X x)
  with-most X x n UcbUnion = on-few _ _ (capped_le ways _)
  with-most X x n EcbUnion = larger-most _ _ (hit-most _ _ (aff i j) (λ k. on-few (U k) _ (u k))) (on-few X _ x)

-- the counts of a table's tasks and accesses are no larger than its ways
pub counts-few : (ways : ℕ) (u : Useful) (s : ℕ) → counts ways u s ≤ ways
counts-few ways u s = heights-le ways u.levels s

pub added-few : (ways : ℕ) (a : Access) (j s : ℕ) → added_by ways a j s ≤ ways
unfolding nothing
added-few ways a j s = go (ltb j a.ceiling)
  where
    go : (t : Bool) → (cond t (counts ways a.ucb) nothing) s ≤ ways
    go true = counts-few ways a.ucb s
    go false = zero-le

pub under-most : (table : Table) (a : Access) (m : Single) (i j : ℕ) → AcceptedTable table
    → reloads_with (ways_in table) (ucb_of table) (ecb_of table) (added_by (ways_in table) a j) a.task m i j ≤ 2048
under-most table a m i j p =
    with-most (ways_in table) (ucb_of table) (ecb_of table) i j p.ways.1 (λ k s. counts-few (ways_in table) (at table k).ucb s)
    (added_by (ways_in table) a j) (added-few (ways_in table) a j) a.task m

-- at the ceiling of an access and below it nothing is added, and nothing is added by none
module _ (table : Table) where
  past-ceiling : (a : Access) (m : Single) (i j : ℕ) → a.ceiling ≤ j → charge_under table a m i j ≡ charge_with (ways_in table) (ucb_of table) (ecb_of table) nothing a.task m i j
  past-ceiling a m i j past = ap (λ (X : Counts). charge_with (ways_in table) (ucb_of table) (ecb_of table) X a.task m i j) (added_none (ways_in table) a j past)

  pub alone : (m : Single) (i j : ℕ) → charge_at table m i j ≡ charge_with (ways_in table) (ucb_of table) (ecb_of table) nothing 0 m i j
  alone m i j = past-ceiling empty_access m i j zero-le

  pub charge-past : (a : Access) (m : Single) (i j : ℕ) → a.ceiling ≤ j → charge_under table a m i j ≡ charge_at table m i j
  charge-past a m i j past = past-ceiling a m i j past ∙ nobodys (ways_in table) (ucb_of table) (ecb_of table) i j a.task 0 m ∙ sym (alone m i j)

  -- the largest values over the tasks alone
  pub largest-ucb : (i j : ℕ) → charge_at table UcbOnly i j ≡ Victim (largest_at (λ k. total (ucb_of table k)) (aff i j))
  largest-ucb i j = alone UcbOnly i j ∙ ucb-only-alone (ways_in table) (ucb_of table) (ecb_of table) i j 0

  pub largest-share : (i j : ℕ) → charge_at table EcbUnion i j ≡ Victim (largest_at (λ k. total (ucb_of table k on union_of (ecb_of table) (hp (j + 1)))) (aff i j))
  largest-share i j = alone EcbUnion i j ∙ ecb-union-alone (ways_in table) (ucb_of table) (ecb_of table) i j 0

  pub all-shared : (i j : ℕ) → charge_at table UcbUnion i j ≡ no_victim (total (capped (ways_in table) (counts_over (ucb_of table) (aff i j)) on ecb_of table j))
  all-shared i j = alone UcbUnion i j ∙ ucb-union-alone (ways_in table) (ucb_of table) (ecb_of table) i j 0
