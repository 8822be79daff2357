-- The reload counts of a method are no smaller than those of the model: they count the same blocks, over 256 cache sets in place of those that there are.
use Rattle.std.proofs.Common.{ℕ, zero, suc, ◌+◌, ◌-◌, ◌*◌, min, ◌≤◌, ◌<◌, zero-le, le_trans, mul_comm, mul-le-mul_right, eq-or-lt_of_le, add-one, arith, ◌≡◌, refl, sym, ap, ◌∙◌, ◌⊎◌, inl, inr, Bool, true, false, if◌then◌else◌, ltb}
use Rattle.cache.specs.Sets.{Set, ◌∪◌, size}
use Rattle.cache.specs.Counts.{Counts, nothing, of_set, ◌⊕◌, capped, ◌on◌, ◌≼◌, total_below, total}
use Rattle.cache.specs.Levels.{counts}
use Rattle.cache.proofs.CountLaws.{one-way-size, total_mono, on-mono}
use Rattle.cache.proofs.SetLaws.{union_left, union_right}
use Rattle.search.specs.Positions.{between, hp}
use Rattle.search.proofs.PositionLaws.{fold-none, fold_next}
use Rattle.table.specs.Accesses.{added_by, empty_access}
use Rattle.table.specs.declared.Table.{Table}
use Rattle.table.specs.Tables.{ways_in, access_at}
use Rattle.analysis.specs.declared.costs.Single.TheVariants.{EcbOnly, UcbOnly, UcbUnion, EcbUnion}
use Rattle.analysis.specs.Gather.{aff, union_of, counts_over, hit, largest_at}
use Rattle.analysis.specs.Costs.{ucb_of, ecb_of, reloads_with}
use Rattle.analysis.proofs.HitLaws.{larger-count, first-largest}
use Rattle.analysis.proofs.UnionLaws.{union-next}
use Rattle.runs.specs.Sums.{sum, one}
use Rattle.runs.specs.Equation.{any, largest, largest_below, sum_below, used_above, added, by_ecb, by_ucb, by_ucb_union, by_ecb_union, charge}
use Rattle.runs.proofs.SumLaws.{sum-le, sum_same, sum-split}
use Rattle.runs.proofs.SearchLaws.{any-is}
use Rattle.every_run.specs.TableRuns.{promised_access, system_of}

-- ---- sums over cache sets

total-is : (n : ℕ) (U : Counts) → total_below n U ≡ sum U n
unfolding total_below sum
total-is zero U = refl
total-is (suc n) U = omega (arith, total-is n U)

sum-within : (n : ℕ) (U : Counts) → n ≤ 256 → sum U n ≤ total U
unfolding total
sum-within n U l =
    let e : n + (256 - n) ≡ 256 = omega arith in
    omega (arith, total-is 256 U, sum-split U n (256 - n), ap (λ (m : ℕ). sum U m) e)

one-is : (b : Bool) → one b ≡ (if b then 1 else 0)
one-is true = refl
one-is false = refl

size-within : (n : ℕ) (A : Set) → n ≤ 256 → sum (λ c. one (A c)) n ≤ size A
unfolding of_set
size-within n A l = omega (arith, sum_same (λ c. one (A c)) (of_set A) n (λ c h. one-is (A c)), sum-within n (of_set A) l, one-way-size A)

-- ---- what is gathered over the affected tasks

largest-most : (f : ℕ → ℕ) (n most : ℕ) → ((k : ℕ) → k < n → f k ≤ most) → largest f n ≤ most
unfolding largest
largest-most f zero most p = zero-le
largest-most f (suc n) most p = omega (arith, p n (omega arith), largest-most f n most (λ k h. p k (omega arith)))

-- the largest value
largest-affected : (f F : ℕ → ℕ) (i j : ℕ) → j < i → ((k : ℕ) → f k ≤ F k) → largest_below f i j ≤ (largest_at F (aff i j)).reloads.0
largest-affected f F i j l p =
    largest-most (λ d. f (suc (j + d))) (i - j) _
    (λ d h. le_trans (p (suc (j + d))) ((first-largest F (j + 1) (i + 1) (omega arith)).most (suc (j + d)) (omega arith) (omega arith)))

-- the sum in a cache set
sum-over : (F : ℕ → Counts) (a n s : ℕ) → counts_over F (between a (a + n)) s ≡ sum (λ d. F (a + d) s) n
unfolding sum nothing ◌⊕◌
sum-over F a zero s =
    let e : a + 0 ≡ a = omega arith in
    ap (λ (b : ℕ). counts_over F (between a b) s) e ∙ ap (λ (U : Counts). U s) (fold-none ◌⊕◌ nothing F a)
sum-over F a (suc n) s =
    let e : a + suc n ≡ a + n + 1 = omega arith in
    ap (λ (b : ℕ). counts_over F (between a b) s) e
    ∙ sym (ap (λ (U : Counts). U s) (fold_next ◌⊕◌ nothing F a (a + n) _ _ (omega arith) refl refl))
    ∙ ap (λ (v : ℕ). v + F (a + n) s) (sum-over F a n s)

sum-affected : (U : ℕ → Counts) (i j s : ℕ) → j < i → sum_below (λ k. U k s) i j ≡ counts_over U (aff i j) s
sum-affected U i j s l =
    let e : i + 1 ≡ j + 1 + (i - j) = omega arith in
    sum_same (λ d. U (suc (j + d)) s) (λ d. U (j + 1 + d) s) (i - j) (λ d h. let f : suc (j + d) ≡ j + 1 + d = omega arith in ap (λ (k : ℕ). U k s) f)
    ∙ sym (ap (λ (b : ℕ). counts_over U (between (j + 1) b) s) e ∙ sum-over U (j + 1) (i - j) s)

-- what one of them uses is in the union
in-union : (E : ℕ → Set) (b k c : ℕ) → k < b → E k c ≡ true → union_of E (hp b) c ≡ true
in-union E zero k c l e = absurd (omega arith)
in-union E (suc b) k c l e = go (eq-or-lt_of_le (omega arith)) (in-union E b k c)
  where
    next : (union_of E (hp b) ∪ E b) ≡ union_of E (hp (b + 1))
    next = union-next E 0 b _ _ zero-le refl refl

    go : (k ≡ b) ⊎ (k < b) → (k < b → E k c ≡ true → union_of E (hp b) c ≡ true) → union_of E (hp (suc b)) c ≡ true
    go (inl f) rest = rw (← add-one b, ← next) (union_right (union_of E (hp b)) (E b) c (rw f at e))
    go (inr h) rest = rw (← add-one b, ← next) (union_left (union_of E (hp b)) (E b) c (rest h e))

used-is : (E : ℕ → Set) (j c : ℕ) → any (λ k. E k c) (suc j) ≡ true → union_of E (hp (j + 1)) c ≡ true
used-is E j c e = let w = any-is (λ k. E k c) (suc j) e in in-union E (j + 1) w.0 c (omega (arith, w.1)) w.2

-- ---- what counts in one cache set

in-set : (a b : Bool) (u : ℕ) → (a ≡ true → b ≡ true) → one a * u ≤ (if b then u else 0)
in-set true true u p = omega arith
in-set true false u p = absurd (let e : false ≡ true = p refl in cc)
in-set false b u p = omega arith

in-capped : (a : Bool) (ways u v : ℕ) → u ≤ v → one a * min ways u ≤ (if a then min ways v else 0)
in-capped true ways u v l = omega arith
in-capped false ways u v l = omega arith

-- in those that are used
total-hit : (sets : ℕ) (Y : Counts) (A B : Set) → sets ≤ 256 → ((c : ℕ) → A c ≡ true → B c ≡ true) → sum (λ c. one (A c) * Y c) sets ≤ total (Y on B)
unfolding ◌on◌
total-hit sets Y A B few p = le_trans (sum-le _ (Y on B) sets (λ c h. in-set (A c) (B c) (Y c) (p c))) (sum-within sets (Y on B) few)

-- ---- the methods, where aff(i, j) has one member more, with no fewer useful blocks than the model's

module _ (table : Table) (few : table.sets ≤ 256) (brt : ℕ) (X X' : Counts) (less : X ≼ X') (n i j : ℕ) (above : j < i) where
  abbrev W : ℕ
  W = ways_in table

  abbrev U : ℕ → Counts
  U = ucb_of table

  abbrev E : ℕ → Set
  E = ecb_of table

  -- blocks that the tasks above evict
  abbrev evicted : Set
  evicted = union_of E (hp (j + 1))

  pub ecb-only : charge (system_of table brt) X by_ecb i j ≤ reloads_with W U E X' n EcbOnly i j
  unfolding charge reloads_with
  ecb-only = rw (mul_comm W (sum (λ c. one (E j c)) table.sets)) (mul-le-mul_right W (size-within table.sets (E j) few))

  pub ucb-only : charge (system_of table brt) X by_ucb i j ≤ reloads_with W U E X' n UcbOnly i j
  unfolding charge reloads_with
  ucb-only =
      omega (
        arith,
        largest-affected (λ k. sum (U k) table.sets) (λ k. total (U k)) i j above (λ k. sum-within table.sets (U k) few),
        larger-count (largest_at (λ k. total (U k)) (aff i j)) (hit (total X') n),
        sum-within table.sets X few,
        total_mono X X' less,
      )

  pub ucb-union : charge (system_of table brt) X by_ucb_union i j ≤ reloads_with W U E X' n UcbUnion i j
  unfolding charge reloads_with capped ◌⊕◌ ◌on◌
  ucb-union =
      le_trans
      (sum-le _ (capped W (counts_over U (aff i j) ⊕ X') on E j) table.sets
      (λ c h. in-capped (E j c) W (sum_below (λ k. U k c) i j + X c) (counts_over U (aff i j) c + X' c) (omega (arith, sum-affected U i j c above, less c))))
      (sum-within table.sets (capped W (counts_over U (aff i j) ⊕ X') on E j) few)

  pub ecb-union : charge (system_of table brt) X by_ecb_union i j ≤ reloads_with W U E X' n EcbUnion i j
  unfolding charge reloads_with
  ecb-union =
      omega (
        arith,
        largest-affected (λ k. sum (λ c. one (used_above (system_of table brt) j c) * U k c) table.sets) (λ k. total (U k on evicted)) i j above
            (λ k. total-hit table.sets (U k) (used_above (system_of table brt) j) evicted few (used-is E j)),
        larger-count (largest_at (λ k. total (U k on evicted)) (aff i j)) (hit (total (X' on evicted)) n),
        total-hit table.sets X (used_above (system_of table brt) j) evicted few (used-is E j),
        total_mono (X on evicted) (X' on evicted) (on-mono X X' evicted evicted less (λ c e. e)),
      )

-- what an access adds, and what none adds
pub adds : (table : Table) (q j : ℕ) → added (promised_access table q) j ≼ added_by (ways_in table) (access_at table q) j
adds table q j c = go (ltb j (access_at table q).ceiling) (counts (ways_in table) (access_at table q).ucb)
  where
    go : (b : Bool) (Y : Counts) → elim b [ true ↦ Y c | false ↦ 0 ] ≤ (if b then Y else nothing) c
    go true Y = omega arith
    go false Y = zero-le

pub adds-none : (table : Table) (j : ℕ) → (λ c. 0) ≼ added_by (ways_in table) empty_access j
adds-none table j c = zero-le
