-- Facts about the demand: what a term asks for, the demand of one term more, and that it grows with all that it is made of.
use Rattle.std.proofs.Common.{ℕ, zero, suc, ◌+◌, ◌-◌, ◌*◌, ◌≤◌, ◌<◌, zero-le, div-lt_iff_lt-mul, le_antisymm, lt_of_not-le, mul-le-mul, mul-le-mul_left, add-one, arith, ◌≡◌, refl, sym, ap, ◌↔◌, List}
use Rattle.std.proofs.Math.Path.{fun_ext}
use Rattle.search.specs.Positions.{hp, fold_by}
use Rattle.search.specs.declared.demand.Term.{Term}
use Rattle.search.specs.Demand.{ceil, activations_of, work_of, demand_of, NoMore}
use Rattle.search.specs.Terms.{InRange, NoOverflow}
use Rattle.search.specs.Least.{least_of, NoLater}
use Rattle.search.proofs.LeastLaws.{Monotone, least_of-no-later}
use Rattle.search.proofs.PositionLaws.{fold-none, fold_next, fold_same, fold-keeps, Rising, place-lt, Grows, gathered}

-- ---- one term

-- what a quotient rounded up is
pub ceil-le : (x q t : ℕ) → 1 ≤ t → (ceil x t ≤ q) ↔ (x ≤ q * t)
ceil-le x q t h =
    let e = div-lt_iff_lt-mul {k = t} {x = x + (t - 1)} {y = suc q} h in
    ((λ p. omega (arith, e.0 (omega arith))), (λ p. omega (arith, e.1 (omega arith))))

pub ceil-mul : (x t : ℕ) → 1 ≤ t → x ≤ ceil x t * t
ceil-mul x t h = (ceil-le x (ceil x t) t h).0 (omega arith)

-- how to tell it without a division
pub ceil-is : (x q t : ℕ) → 1 ≤ t → x ≤ q * t → q * t < x + t → q ≡ ceil x t
ceil-is x zero t h l m = le_antisymm (omega arith) ((ceil-le x zero t h).1 l)
ceil-is x (suc q) t h l m =
    le_antisymm (lt_of_not-le (λ p. let k = (ceil-le x q t h).0 p in omega arith)) ((ceil-le x (suc q) t h).1 l)

pub ceil-most : (x q t : ℕ) → 1 ≤ t → x ≤ q → ceil x t ≤ q
ceil-most x q t h l = (ceil-le x q t h).1 (omega (arith, mul-le-mul_left q h))

-- more ticks at a shorter period are more activations
ceil-mono : (x y s t : ℕ) → x ≤ y → 1 ≤ t → t ≤ s → ceil x s ≤ ceil y t
ceil-mono x y s t h l p =
    (ceil-le x (ceil y t) s (omega arith)).1 (omega (arith, ceil-mul y t l, mul-le-mul_left (ceil y t) p))

pub activations-mono : (r s : ℕ) → r ≤ s → (a b : Term) → NoMore a b → activations_of r a ≤ activations_of s b
activations-mono r s h a b p = ceil-mono (r + a.jitter.0) (s + b.jitter.0) a.period.0 b.period.0 (omega arith) p.live p.period

work-mono : (r s : ℕ) → r ≤ s → (a b : Term) → NoMore a b → work_of r a ≤ work_of s b
work-mono r s h a b p = mul-le-mul (activations-mono r s h a b p) p.weight

pub no-more-self : (t : Term) → InRange t → NoMore t t
no-more-self t p = record { live = p.period; period = omega arith; jitter = omega arith; weight = omega arith }

pub work-later : (r s : ℕ) (t : Term) → InRange t → r ≤ s → work_of r t ≤ work_of s t
work-later r s t p h = work-mono r s h t t (no-more-self t p)

pub jitter-most : (t : Term) → InRange t → t.jitter.0 ≤ 250000000
jitter-most t p = omega (arith, p.jitter, p.period-most)

-- each term is activated once at least
pub activations-some : (s : ℕ) (t : Term) → InRange t → 1 ≤ s → 1 ≤ activations_of s t
activations-some s t p h = lt_of_not-le (λ m. let q = (ceil-le (s + t.jitter.0) 0 t.period.0 p.period).0 m in omega arith)

-- the same terms may be handed in for other work of the task's own, and at another time
pub handed-for : {own r : ℕ} {terms : List Term} → NoOverflow own terms r → {c s : ℕ} → 1 ≤ c → c ≤ 500000000 → s ≤ 250000000 → NoOverflow c terms s
handed-for p least most time = record {
  few = p.few;
  own-least = least;
  own-most = most;
  time = time;
  ranged = p.ranged;
}

-- ---- the demand

module _ (own : ℕ) (t : ℕ → Term) (r : ℕ) where
  pub demand-none : demand_of own t 0 r ≡ own
  unfolding demand_of
  demand-none = fold-none ◌+◌ own (λ j. work_of r (t j)) 0

  pub demand-next : (n : ℕ) → demand_of own t (n + 1) r ≡ demand_of own t n r + work_of r (t n)
  unfolding demand_of
  demand-next n = sym (fold_next ◌+◌ own (λ j. work_of r (t j)) 0 n _ _ zero-le refl refl)

  -- it has the task's own work
  pub demand_own : (n : ℕ) → own ≤ demand_of own t n r
  unfolding demand_of
  demand_own n = fold-keeps ◌+◌ (λ b. own ≤ b) own (λ j. work_of r (t j)) (hp n) (omega arith) (λ b k h. omega arith)

-- what more a task has of its own is as much more of its demand
pub demand-shift : (c d : ℕ) (t : ℕ → Term) (s n : ℕ) → demand_of c t n s + d ≡ demand_of d t n s + c
demand-shift c d t s zero = omega (arith, demand-none c t s, demand-none d t s)
demand-shift c d t s (suc n) =
    omega (arith, demand-shift c d t s n, rw add-one at (demand-next c t s n), rw add-one at (demand-next d t s n))

-- only the terms of the first n tasks count
pub demand-same : (own : ℕ) (e f : ℕ → Term) (n : ℕ) → ((j : ℕ) → j < n → e j ≡ f j) → demand_of own e n ≡ demand_of own f n
unfolding demand_of
demand-same own e f n p = fun_ext (λ r. fold_same ◌+◌ own _ _ 0 (n - 0) (λ j _ l. ap (work_of r) (p j (omega arith))))

sum-grows : Grows ◌+◌ ◌≤◌
sum-grows = record { same = λ x. omega arith; trans = λ x y w p q. omega arith; more = λ x y. omega arith; both = λ x y v w p q. omega arith }

-- a sum of numbers that are each no more is no more
pub sum-le : (own : ℕ) (a b : ℕ → ℕ) (n : ℕ) → ((j : ℕ) → j < n → a j ≤ b j) → fold_by ◌+◌ own a (hp n) ≤ fold_by ◌+◌ own b (hp n)
sum-le own a b n p =
    gathered sum-grows (λ k. k) (λ k. omega arith) own own (omega arith) a b 0 0 zero-le n n (λ j _ l. (l, p j l))

-- it grows with the time, with the task's own work, and with what each term asks for
demand-by : (place : ℕ → ℕ) → Rising place → (e f : ℕ → Term) (n c d r s : ℕ) → c ≤ d → r ≤ s
    → ((j : ℕ) → j < n → NoMore (e j) (f (place j))) → demand_of c e n r ≤ demand_of d f (place n) s
unfolding demand_of
demand-by place rises e f n c d r s h k p =
    gathered sum-grows place rises c d h _ _ 0 0 zero-le n (place n)
    (λ j _ l. (place-lt place rises j n l, work-mono r s k (e j) (f (place j)) (p j l)))

pub demand-mono : (t : ℕ → Term) (n own : ℕ) → ((j : ℕ) → j < n → InRange (t j)) → Monotone (demand_of own t n)
demand-mono t n own p a b h =
    demand-by (λ k. k) (λ k. omega arith) t t n own own a b (omega arith) h (λ j l. no-more-self (t j) (p j l))

pub demand-more : (e f : ℕ → Term) (n c d : ℕ) → c ≤ d → ((j : ℕ) → j < n → NoMore (e j) (f j)) → (s : ℕ) → demand_of c e n s ≤ demand_of d f n s
demand-more e f n c d h p s = demand-by (λ k. k) (λ k. omega arith) e f n c d s s h (omega arith) p

-- a task with less work of its own and above it, and no smaller a limit, is answered no later
pub answer-by : (place : ℕ → ℕ) → Rising place → (e f : ℕ → Term) (n c d l m : ℕ) → c ≤ d → m ≤ l
    → ((j : ℕ) → j < n → InRange (e j)) → ((j : ℕ) → j < n → NoMore (e j) (f (place j)))
    → NoLater (least_of (demand_of c e n) l) (least_of (demand_of d f (place n)) m)
answer-by place rises e f n c d l m h k p q =
    least_of-no-later _ (demand-mono e n c p) _ (λ x. demand-by place rises e f n c d x x h (omega arith) q) l m k
