-- Facts about the demand bound: which jobs it counts, that it grows with the time, and that a bound below the time leaves out the times between.
use Rattle.std.proofs.Common.{ℕ, zero, suc, ◌+◌, ◌-◌, ◌*◌, ◌/◌, ◌≤◌, ◌<◌, mul-le-mul_left, mul-le-mul_right, arith, ◌≡◌, refl, ap, sym, ◌∙◌, ◌↔◌, List, [], ◌∷◌, length, get_or, take, Some, None}
use Rattle.std.proofs.Math.Nat.{add-div_right, div-eq_of_lt, div-mul-le_self, le-div_iff_mul-le}
use Rattle.std.proofs.Math.Decide.{dec_lt}
use Rattle.std.proofs.lemmas.Bool.{le-leb, lt-leb}
use Rattle.std.proofs.lemmas.List.Sums.{sum_by-cons, sum_by_more, sum_by-take-le}
use Rattle.std.specs.List.{All}
use Rattle.edf.specs.declared.charges.ChargedTask.{ChargedTask}
use Rattle.edf.specs.Charges.{no_charged_task}
use Rattle.edf.specs.Bound.{jobs_within, asked_within, demand_bound, InTimeFrom, Timed, unless_above}

-- ---- all of a list

pub all-first : {A : Type 0} (P : A → Type 0) (t : A) (ts : List A) → All P (t ∷ ts) → P t
all-first P t ts p = p 0 t (omega arith)

pub all-rest : {A : Type 0} (P : A → Type 0) (t : A) (ts : List A) → All P (t ∷ ts) → All P ts
all-rest P t ts p = λ k d h. p (suc k) d (omega arith)

-- ---- the jobs of one task

module _ (x : ℕ) (t : ChargedTask) where
  pub jobs-none : x < t.deadline.0 → jobs_within x t ≡ 0
  unfolding jobs_within
  jobs-none h = rw (lt-leb t.deadline.0 x h, jobs_within)

  pub jobs-some : t.deadline.0 ≤ x → jobs_within x t ≡ (x - t.deadline.0) / t.period.0 + 1
  unfolding jobs_within
  jobs-some h = rw (le-leb t.deadline.0 x h, jobs_within)

  -- the count in one quotient, as D ≤ T
  pub jobs-quotient : Timed t → jobs_within x t ≡ (x + (t.period.0 - t.deadline.0)) / t.period.0
  jobs-quotient p = elim (dec_lt x t.deadline.0) [
    | yes l ↦ jobs-none l ∙ sym (div-eq_of_lt (omega (arith, p.deadline, p.order)))
    | no l ↦ (
        let h : t.deadline.0 ≤ x = omega arith in
        let e : x + (t.period.0 - t.deadline.0) ≡ x - t.deadline.0 + t.period.0 = omega (arith, p.order) in
        jobs-some h ∙ sym (rw e (add-div_right (x - t.deadline.0) {k = t.period.0} (omega (arith, p.deadline, p.order))))
        )
  ]

  -- job k is released at k periods, and due D later
  pub jobs-counted : Timed t → (k : ℕ) → (k < jobs_within x t) ↔ (k * t.period.0 + t.deadline.0 ≤ x)
  jobs-counted p k = elim (dec_lt x t.deadline.0) [
    | yes l ↦ ((λ m. absurd (omega (arith, m, jobs-none l))), (λ m. absurd (omega (arith, m, l))))
    | no l ↦ (
        let h : t.deadline.0 ≤ x = omega arith in
        let e = le-div_iff_mul-le {k = t.period.0} {x = k} {y = x - t.deadline.0} (omega (arith, p.deadline, p.order)) in
        ((λ m. omega (arith, h, e.0 (omega (arith, m, jobs-some h)))), (λ m. omega (arith, jobs-some h, e.1 (omega (arith, h, m)))))
        )
  ]

pub jobs-mono : (x y : ℕ) (t : ChargedTask) → Timed t → x ≤ y → jobs_within x t ≤ jobs_within y t
jobs-mono x y t p h =
    let r = t.period.0 - t.deadline.0 in
    rw (jobs-quotient x t p, jobs-quotient y t p)
    ((le-div_iff_mul-le {k = t.period.0} {x = (x + r) / t.period.0} {y = y + r} (omega (arith, p.deadline, p.order))).1 (omega (arith, div-mul-le_self (x + r) t.period.0)))

pub jobs-most : (x : ℕ) (t : ChargedTask) → Timed t → jobs_within x t ≤ x
jobs-most x t p = go (jobs_within x t) refl
  where
    go : (n : ℕ) → jobs_within x t ≡ n → n ≤ x
    go zero e = omega arith
    go (suc k) e =
        let some : 1 ≤ t.period.0 = omega (arith, p.deadline, p.order) in
        omega (arith, (jobs-counted x t p k).0 (omega (arith, e)), mul-le-mul_left k some, p.deadline)

-- ---- the demand bound

pub bound-none : (x : ℕ) → demand_bound [] x ≡ 0
unfolding demand_bound
bound-none x = refl

pub bound-cons : (t : ChargedTask) (ts : List ChargedTask) (x : ℕ) → demand_bound (t ∷ ts) x ≡ asked_within x t + demand_bound ts x
unfolding demand_bound
bound-cons t ts x = sum_by-cons (asked_within x) t ts

pub bound-next : (ts : List ChargedTask) (i x : ℕ) → i < length ts
    → demand_bound (take (i + 1) ts) x ≡ demand_bound (take i ts) x + asked_within x (get_or ts i no_charged_task)
unfolding demand_bound
bound-next ts i x h = sum_by_more (asked_within x) ts i no_charged_task h

pub bound-fewer : (ts : List ChargedTask) (i x : ℕ) → demand_bound (take i ts) x ≤ demand_bound ts x
unfolding demand_bound
bound-fewer ts i x = sum_by-take-le (asked_within x) ts i

-- it grows with the time
pub bound-mono : (ts : List ChargedTask) → All Timed ts → (x y : ℕ) → x ≤ y → demand_bound ts x ≤ demand_bound ts y
bound-mono [] p x y h = omega (arith, bound-none x, bound-none y)
bound-mono (t ∷ ts) p x y h =
    omega (arith, bound-cons t ts x, bound-cons t ts y, bound-mono ts (all-rest Timed t ts p) x y h, mul-le-mul_right t.time.0 (jobs-mono x y t (all-first Timed t ts p) h))

-- it is 0 at the start
pub bound-start : (ts : List ChargedTask) → All Timed ts → demand_bound ts 0 ≡ 0
bound-start [] p = bound-none 0
bound-start (t ∷ ts) p =
    let q = all-first Timed t ts p in
    omega (arith, bound-cons t ts 0, bound-start ts (all-rest Timed t ts p), ap (λ (j : ℕ). j * t.time.0) (jobs-none 0 t q.deadline))

-- where the bound before the end is no larger than the time, it is the next end
pub in_time-next : (ts : List ChargedTask) (end most bound : ℕ) → All Timed ts → 1 ≤ end → bound ≡ demand_bound ts (end - 1) → InTimeFrom ts end most → InTimeFrom ts bound most
in_time-next ts end most bound p some e c x l m = elim (dec_lt x end) [
  | yes k ↦ omega (arith, e, bound-mono ts p x (end - 1) (omega arith))
  | no k ↦ c x (omega arith) m
]

-- ---- a number that is told where it is no larger

pub told-number : (x n : ℕ) → n ≤ x → Some n ≡ unless_above x n
told-number x n h = rw (le-leb n x h)

pub told-none : (x n : ℕ) → x < n → None ≡ unless_above x n
told-none x n h = rw (lt-leb n x h)

-- what is told tells
clash : (n : ℕ) → Some n ≡ None → ⊥
clash n e = cc

pub number-is : (x n m : ℕ) → Some m ≡ unless_above x n → (m ≡ n) × (n ≤ x)
number-is x n m e = elim (dec_lt x n) [
  | yes l ↦ absurd (clash m (e ∙ sym (told-none x n l)))
  | no l ↦ (let q : n ≤ x = omega arith in let r = e ∙ sym (told-number x n q) in (cc, q))
]

pub none-is : (x n : ℕ) → None ≡ unless_above x n → x < n
none-is x n e = elim (dec_lt x n) [
  | yes l ↦ l
  | no l ↦ (let q : n ≤ x = omega arith in absurd (clash n (told-number x n q ∙ sym e)))
]
