-- The largest value, and the first position that has it.
use Rattle.std.proofs.Common.{ℕ, zero, suc, ◌+◌, ◌-◌, ◌≤◌, ◌<◌, max, le_antisymm, lt_of_not-le, arith, ◌≡◌, refl, sym, ap, ap₂, ◌∙◌, Bool, true, false, cond, List, ltb, below_more, ltb-true, ltb-false}
use Rattle.search.specs.Positions.{between}
use Rattle.search.proofs.PositionLaws.{between_first, fold-none, fold_next, fold-front, fold-part}
use Rattle.analysis.specs.declared.costs.Hit.{Hit}
use Rattle.analysis.specs.Gather.{largest_of, hit, larger_of, largest_from, largest_at, FirstLargest}

-- what holds of either where it is the larger
pub larger-by : (P : Hit → Type 0) (a b : Hit) → (a.reloads.0 < b.reloads.0 → P b) → (b.reloads.0 ≤ a.reloads.0 → P a) → P (larger_of a b)
larger-by P a b second first = go (ltb a.reloads.0 b.reloads.0) refl
  where
    go : (t : Bool) → ltb a.reloads.0 b.reloads.0 ≡ t → P (cond t b a)
    go true e = second (ltb-true _ _ e)
    go false e = first (ltb-false _ _ e)

-- which of two is the larger
pub larger-first : (a b : Hit) → b.reloads.0 ≤ a.reloads.0 → larger_of a b ≡ a
larger-first a b l = larger-by (λ h. h ≡ a) a b (λ less. absurd (omega arith)) (λ _. refl)

larger-second : (a b : Hit) → a.reloads.0 < b.reloads.0 → larger_of a b ≡ b
larger-second a b l = larger-by (λ h. h ≡ b) a b (λ _. refl) (λ least. absurd (omega arith))

-- of three it does not matter which two are compared first
larger-assoc : (a b c : Hit) → larger_of (larger_of a b) c ≡ larger_of a (larger_of b c)
larger-assoc a b c =
    larger-by (λ h. larger_of h c ≡ larger_of a (larger_of b c)) a b
    (λ l. sym (larger-second a (larger_of b c) (larger-by (λ h. a.reloads.0 < h.reloads.0) b c (λ m. omega arith) (λ m. l))))
    (λ l. larger-by (λ h. larger_of a c ≡ larger_of a h) b c (λ m. refl) (λ m. larger-first a c (omega arith) ∙ sym (larger-first a b l)))

-- its count is the larger of the two
pub larger-count : (a b : Hit) → (larger_of a b).reloads.0 ≡ max a.reloads.0 b.reloads.0
larger-count a b = larger-by (λ h. h.reloads.0 ≡ max a.reloads.0 b.reloads.0) a b (λ l. omega arith) (λ l. omega arith)

pub larger-most : (a b : Hit) {most : ℕ} → a.reloads.0 ≤ most → b.reloads.0 ≤ most → (larger_of a b).reloads.0 ≤ most
larger-most a b p q = omega (arith, larger-count a b)

pub larger-grows : (a b c d : Hit) → a.reloads.0 ≤ c.reloads.0 → b.reloads.0 ≤ d.reloads.0 → (larger_of a b).reloads.0 ≤ (larger_of c d).reloads.0
larger-grows a b c d p q = omega (arith, larger-count a b, larger-count c d)

-- the count of the pair is the largest value, over any positions
pub largest-count : (p : ℕ) (F : ℕ → ℕ) (ks : List ℕ) → (largest_from p F ks).reloads.0 ≡ largest_of F ks
largest-count p F ks = fold-part larger_of max (λ h. h.reloads.0) larger-count (hit 0 p) (λ k. hit (F k) k) ks

pub hit-grows : (p q : ℕ) (F G : ℕ → ℕ) (ks ls : List ℕ) → largest_of F ks ≤ largest_of G ls
    → (largest_from p F ks).reloads.0 ≤ (largest_from q G ls).reloads.0
hit-grows p q F G ks ls h = rw (largest-count p F ks, largest-count q G ls) h

-- a loop over the positions up to the first: one more in front
pub hit-front : (F : ℕ → ℕ) (k to : ℕ) (below : Hit) (n : ℕ) → k < to → n ≡ F k → below ≡ largest_from (k + 1) F (between (k + 1) to)
    → larger_of (hit n k) below ≡ largest_from k F (between k to)
hit-front F k to below n h e f =
    fold-front larger_of larger-assoc (hit 0 (k + 1)) (hit 0 k) (λ k. hit (F k) k) k to (hit n k) below h
    (larger-by (λ h. h ≡ hit (F k) k) (hit 0 k) (hit (F k) k) (λ l. refl) (λ l. ap (λ (n : ℕ). hit n k) (omega arith))
    ∙ sym (larger-first (hit (F k) k) (hit 0 (k + 1)) (omega arith)))
    (ap (λ (n : ℕ). hit n k) e) f

module _ (F : ℕ → ℕ) (from : ℕ) where
  -- a loop over the positions from `from` on: before the first, and at one more
  pub hit-none : hit 0 from ≡ largest_from from F (between from from)
  hit-none = sym (fold-none larger_of (hit 0 from) (λ k. hit (F k) k) from)

  pub hit-next : (k : ℕ) (so_far : Hit) (n : ℕ) → from ≤ k → so_far ≡ largest_from from F (between from k) → n ≡ F k
      → larger_of so_far (hit n k) ≡ largest_from from F (between from (k + 1))
  hit-next k so_far n h e f = fold_next larger_of (hit 0 from) (λ k. hit (F k) k) from k so_far (hit n k) h e (ap (λ (n : ℕ). hit n k) f)

  -- one whose value is no more than the largest so far is passed over
  pub hit-passed : (k : ℕ) (so_far : Hit) → from ≤ k → so_far ≡ largest_from from F (between from k) → F k ≤ so_far.reloads.0
      → so_far ≡ largest_from from F (between from (k + 1))
  hit-passed k so_far h e l = sym (larger-first so_far (hit (F k) k) l) ∙ hit-next k so_far (F k) h e refl

  -- over one position
  largest-one : FirstLargest F from (from + 1) (larger_of (hit 0 from) (hit (F from) from))
  largest-one = larger-by (FirstLargest F from (from + 1)) _ _ (λ l. here (F from) refl) (λ l. here 0 (omega arith))
    where
      here : (n : ℕ) → F from ≡ n → FirstLargest F from (from + 1) (hit n from)
      here n e = record {
        from_on = omega arith;
        below = omega arith;
        value = e;
        most = λ k h b. let f : k ≡ from = omega arith in rw f (omega arith);
        first = λ k h b. absurd (omega arith);
      }

  -- and one more
  largest-next : (k : ℕ) (h : Hit) → from ≤ k → FirstLargest F from k h → FirstLargest F from (k + 1) (larger_of h (hit (F k) k))
  largest-next k h l p =
      larger-by (FirstLargest F from (k + 1)) h (hit (F k) k)
      (λ less. record {
        from_on = l;
        below = omega arith;
        value = refl;
        most = λ m g b. below_more (λ m. from ≤ m → F m ≤ F k) k (λ m b g. omega (arith, p.most m g b)) (λ g. omega arith) m b g;
        first = λ m g b. omega (arith, p.most m g b);
      })
      (λ least. record {
        from_on = p.from_on;
        below = omega (arith, p.below);
        value = p.value;
        most = λ m g b. below_more (λ m. from ≤ m → F m ≤ h.reloads.0) k (λ m b g. p.most m g b) (λ g. least) m b g;
        first = p.first;
      })

  run-largest : (n : ℕ) → FirstLargest F from (from + n + 1) (largest_from from F (between from (from + n + 1)))
  run-largest zero =
      let e : from + 0 ≡ from = omega arith in
      rw (e, ← hit-next from (hit 0 from) (F from) (omega arith) hit-none refl) largest-one
  run-largest (suc n) =
      let e : from + suc n ≡ from + n + 1 = omega arith in
      rw (e, ← hit-next (from + n + 1) _ (F (from + n + 1)) (omega arith) refl refl) (largest-next (from + n + 1) _ (omega arith) (run-largest n))

  module _ (to : ℕ) (some : from < to) where
    -- begun at the first position it is `largest_at`
    pub largest-from : largest_from from F (between from to) ≡ largest_at F (between from to)
    largest-from = ap (λ (p : ℕ). largest_from p F (between from to)) (sym (between_first from to 0 some))

    pub first-largest : FirstLargest F from to (largest_at F (between from to))
    first-largest =
        let e : to ≡ from + (to - from - 1) + 1 = omega arith in
        rw (← largest-from, e) (run-largest (to - from - 1))

  -- it is the only one
  module _ (to : ℕ) {g h : Hit} (p : FirstLargest F from to g) (q : FirstLargest F from to h) where
    none-larger : g.reloads.0 ≤ h.reloads.0
    none-larger = omega (arith, p.value, q.most g.victim p.from_on p.below)

    no-later : h.reloads.0 ≤ g.reloads.0 → h.victim < suc g.victim
    no-later m = lt_of_not-le (λ l. omega (arith, p.value, q.first g.victim p.from_on l))

  pub only_one : (to : ℕ) {g h : Hit} → FirstLargest F from to g → FirstLargest F from to h → g ≡ h
  only_one to p q =
      let m = none-larger to p q in
      let n = none-larger to q p in
      ap₂ hit (le_antisymm m n) (omega (arith, no-later to p q n, no-later to q p m))

  -- where all values are 0, the first of the positions is hit
  pub all-zero : (to : ℕ) → from < to → ((k : ℕ) → from ≤ k → k < to → F k ≡ 0) → largest_at F (between from to) ≡ hit 0 from
  all-zero to some zeros =
      only_one to (first-largest to some)
      (record {
        from_on = omega arith;
        below = some;
        value = zeros from (omega arith) some;
        most = λ k h b. omega (arith, zeros k h b);
        first = λ k h b. absurd (omega arith);
      })
