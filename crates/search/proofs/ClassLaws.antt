-- Facts about sums over some of the terms.
use Rattle.std.proofs.Common.{ℕ, zero, suc, ◌+◌, ◌*◌, ◌≤◌, ◌<◌, zero-le, lt_of_not-le, add-one, arith, ◌≡◌, refl, sym, ap, ◌∙◌, Bool, true, false, cond, List, eqb, ltb, leb, get_or, eq-eqb, ne_eqb, lt-ltb, le-ltb, le-leb}
use Rattle.std.proofs.Math.Decide.{dec_le}
use Rattle.std.proofs.lemmas.Bool.{lt-leb}
use Rattle.search.specs.declared.demand.Term.{Term}
use Rattle.search.specs.Demand.{work_of, demand_of}
use Rattle.search.specs.Terms.{InRange}
use Rattle.search.proofs.PositionLaws.{fold-none, fold_next}
use Rattle.search.proofs.DemandLaws.{sum-le, demand-none, demand-next}
use Rattle.search.specs.Shares.{share_of, shares_of}
use Rattle.search.proofs.ShareLaws.{work-share}
use Rattle.search.specs.Classes.{sum_over, in_class, before_class, from_class, shares_over, works_over, AskMore}

-- ---- any of the terms

module _ (some : ℕ → Bool) (x : ℕ → ℕ) where
  pub over_none : sum_over some x 0 ≡ 0
  unfolding sum_over
  over_none = fold-none ◌+◌ 0 (λ j. cond (some j) (x j) 0) 0

  pub over-next : (n : ℕ) → sum_over some x (n + 1) ≡ sum_over some x n + cond (some n) (x n) 0
  unfolding sum_over
  over-next n = sym (fold_next ◌+◌ 0 (λ j. cond (some j) (x j) 0) 0 n _ _ zero-le refl refl)

-- with one term more, which is one of them or is not
pub over-one : (some : ℕ → Bool) (x : ℕ → ℕ) (n : ℕ) → some n ≡ true → sum_over some x (n + 1) ≡ sum_over some x n + x n
over-one some x n h = rw h at (over-next some x n)

pub over-other : (some : ℕ → Bool) (x : ℕ → ℕ) (n : ℕ) → some n ≡ false → sum_over some x (n + 1) ≡ sum_over some x n
over-other some x n h = (rw h at (over-next some x n)) ∙ omega arith

-- they ask for what each of them does
pub ask-each : (some : ℕ → Bool) (t : ℕ → Term) (s : ℕ) (x : ℕ → ℕ) (n : ℕ)
    → ((j : ℕ) → j < n → x j + s * share_of (t j) ≤ 17179869184 * work_of s (t j)) → AskMore some t n (sum_over some x n) s
ask-each some t s x zero each =
    omega (
      arith,
      over_none some x,
      over_none some (λ j. work_of s (t j)),
      ap (λ (z : ℕ). s * z) (over_none some (λ j. share_of (t j))),
    )
ask-each some t s x (suc n) each =
    omega (
      arith,
      ask-each some t s x n (λ j l. each j (omega arith)),
      one (some n) (x n) (share_of (t n)) (work_of s (t n)) (each n (omega arith)),
      rw add-one at (over-next some x n),
      rw add-one at (over-next some (λ j. work_of s (t j)) n),
      ap (λ (z : ℕ). s * z) (rw add-one at (over-next some (λ j. share_of (t j)) n)),
    )
  where
    one : (b : Bool) (y q w : ℕ) → y + s * q ≤ 17179869184 * w → cond b y 0 + s * cond b q 0 ≤ 17179869184 * cond b w 0
    one true y q w h = h
    one false y q w h = omega arith

-- a sum over some is one over two parts of them
pub over-parts : (some a b : ℕ → Bool) (x : ℕ → ℕ) (n : ℕ) → ((j : ℕ) → cond (some j) (x j) 0 ≡ cond (a j) (x j) 0 + cond (b j) (x j) 0)
    → sum_over some x n ≡ sum_over a x n + sum_over b x n
over-parts some a b x zero h = omega (arith, over_none some x, over_none a x, over_none b x)
over-parts some a b x (suc n) h =
    omega (
      arith,
      over-parts some a b x n h,
      h n,
      rw add-one at (over-next some x n),
      rw add-one at (over-next a x n),
      rw add-one at (over-next b x n),
    )

-- no more than the sum over all
pub shares-over : (some : ℕ → Bool) (t : ℕ → Term) (n : ℕ) → shares_over some t n ≤ shares_of t n
unfolding sum_over shares_of
shares-over some t n = sum-le 0 _ _ n (λ j l. part (some j) (share_of (t j)))
  where
    part : (b : Bool) (x : ℕ) → cond b x 0 ≤ x
    part true x = omega arith
    part false x = omega arith

-- with numbers that are no more it is no more
pub over-le : (some : ℕ → Bool) (x y : ℕ → ℕ) (n : ℕ) → ((j : ℕ) → j < n → x j ≤ y j) → sum_over some x n ≤ sum_over some y n
unfolding sum_over
over-le some x y n h = sum-le 0 _ _ n (λ j l. one (some j) (h j l))
  where
    one : (b : Bool) {a c : ℕ} → a ≤ c → cond b a 0 ≤ cond b c 0
    one true h = h
    one false h = omega arith

-- the demand is that of two parts of the terms
pub demand-parts : (a b : ℕ → Bool) (own : ℕ) (t : ℕ → Term) (s n : ℕ) → ((j x : ℕ) → cond (a j) x 0 + cond (b j) x 0 ≡ x)
    → demand_of own t n s ≡ own + works_over a t n s + works_over b t n s
demand-parts a b own t s zero h =
    omega (arith, demand-none own t s, over_none a (λ j. work_of s (t j)), over_none b (λ j. work_of s (t j)))
demand-parts a b own t s (suc n) h =
    omega (
      arith,
      demand-parts a b own t s n h,
      h n (work_of s (t n)),
      rw add-one at (demand-next own t s n),
      rw add-one at (over-next a (λ j. work_of s (t j)) n),
      rw add-one at (over-next b (λ j. work_of s (t j)) n),
    )

-- ---- classes

module _ (classes : List ℕ) where
  -- a class more
  before-next : (c : ℕ) (x : ℕ → ℕ) (n : ℕ) → sum_over (before_class classes (c + 1)) x n ≡ sum_over (before_class classes c) x n + sum_over (in_class classes c) x n
  before-next c x n = over-parts _ _ _ x n (λ j. one (get_or classes j 0) (x j))
    where
      one : (k y : ℕ) → cond (ltb k (c + 1)) y 0 ≡ cond (ltb k c) y 0 + cond (eqb k c) y 0
      one k y = elim (dec_le c k) [
        | yes l ↦ elim (dec_le k c) [
          | yes m ↦ (
              let e : k ≡ c = omega arith in
              rw (le-ltb k c (omega arith), lt-ltb k (c + 1) (omega arith), eq-eqb k c e) (omega arith))
          | no m ↦ (
              let o = lt_of_not-le m in
              rw (le-ltb k c (omega arith), le-ltb k (c + 1) (omega arith), ne_eqb k c (λ e. omega arith)) (omega arith))
        ]
        | no l ↦ (
            let o = lt_of_not-le l in
            rw (lt-ltb k c o, lt-ltb k (c + 1) (omega arith), ne_eqb k c (λ e. omega arith)) (omega arith))
      ]

  -- before a class, and from it on, are all
  pub all-parts : (c j x : ℕ) → cond (before_class classes c j) x 0 + cond (from_class classes c j) x 0 ≡ x
  all-parts c j x = one (get_or classes j 0)
    where
      one : (k : ℕ) → cond (ltb k c) x 0 + cond (leb c k) x 0 ≡ x
      one k = elim (dec_le c k) [
        | yes l ↦ rw (le-ltb k c l, le-leb c k l) (omega arith)
        | no l ↦ (let o = lt_of_not-le l in rw (lt-ltb k c o, lt-leb c k o) (omega arith))
      ]

  module _ (t : ℕ → Term) (n s : ℕ) where
    -- nothing is asked for before the first class
    pub ask-none : AskMore (before_class classes 0) t n 0 s
    ask-none =
        omega (
          arith,
          ap (λ (z : ℕ). s * z) (none (λ j. share_of (t j)) n),
        )
      where
        none : (x : ℕ → ℕ) (n : ℕ) → sum_over (before_class classes 0) x n ≡ 0
        none x zero = over_none _ x
        none x (suc n) = omega (arith, none x n, rw add-one at (over-next (before_class classes 0) x n), rw (le-ltb (get_or classes n 0) 0 zero-le) at (rw add-one at (over-next (before_class classes 0) x n)))

    -- with one class more, that more is asked for
    pub ask-next : (c a b : ℕ) → AskMore (before_class classes c) t n a s → AskMore (in_class classes c) t n b s
        → AskMore (before_class classes (c + 1)) t n (a + b) s
    ask-next c a b p q =
        omega (
          arith,
          before-next c (λ j. work_of s (t j)) n,
          ap (λ (z : ℕ). s * z) (before-next c (λ j. share_of (t j)) n),
        )

    -- a class more asks for its shares at least
    ask-class : (c a : ℕ) → ((j : ℕ) → j < n → InRange (t j)) → AskMore (before_class classes c) t n a s → AskMore (before_class classes (c + 1)) t n a s
    ask-class c a ranged p =
        omega (
          arith,
          ask-next c a _ p (ask-each (in_class classes c) t s (λ j. 0) n (λ j l. omega (arith, work-share s (t j) (ranged j l)))),
        )

    pub ask-up : (c k a : ℕ) → ((j : ℕ) → j < n → InRange (t j)) → AskMore (before_class classes c) t n a s → AskMore (before_class classes (c + k)) t n a s
    ask-up c zero a ranged p = let e : c + 0 ≡ c = omega arith in rw e p
    ask-up c (suc k) a ranged p =
        let e : c + suc k ≡ c + k + 1 = omega arith in
        rw e (ask-class (c + k) a ranged (ask-up c k a ranged p))
