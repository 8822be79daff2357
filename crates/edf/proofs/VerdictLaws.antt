-- What the searches find is the verdict, and the first time that is exceeded.
use Rattle.std.proofs.Common.{ℕ, zero, suc, ◌+◌, ◌-◌, ◌/◌, ◌≤◌, ◌<◌, eq-or-lt_of_le, arith, ◌≡◌, refl, Bool, true, false, cond, ◌&&◌, ◌⊎◌, inl, inr, List, Some, None, leb}
use Rattle.std.proofs.Math.Decide.{dec_lt}
use Rattle.std.proofs.lemmas.Bool.{le-leb, lt-leb}
use Rattle.cache.specs.declared.units.Ticks.{Ticks}
use Rattle.edf.specs.declared.charges.ChargedTask.{ChargedTask}
use Rattle.edf.specs.declared.Verdict.TheVariants.{No, Yes}
use Rattle.edf.specs.Bound.{demand_bound, InTime, InTimeFrom, LastOverrun, FirstOverrun}
use Rattle.edf.specs.Hyperperiod.{all_charged_within, Posed}
use Rattle.edf.specs.Verdicts.{IsVerdict, in_time_below, edf_verdict}
use Rattle.edf.proofs.HyperperiodLaws.{bound_at, enough}

-- ---- the computed test

below-true : (ts : List ChargedTask) (n : ℕ) → InTimeFrom ts 0 n → in_time_below ts n ≡ true
unfolding in_time_below
below-true ts zero p = refl
below-true ts (suc n) p = rw (le-leb (demand_bound ts n) n (p n (omega arith) (omega arith)), below-true ts n (λ x l m. p x l (omega arith)))

below-false : (ts : List ChargedTask) (n x : ℕ) → x < n → x < demand_bound ts x → in_time_below ts n ≡ false
unfolding in_time_below
below-false ts zero x h l = absurd (omega arith)
below-false ts (suc n) x h l = go (eq-or-lt_of_le (omega arith)) (λ k. below-false ts n x k l)
  where
    none : (b : Bool) → (b && false) ≡ false
    none true = refl
    none false = refl

    go : (x ≡ n) ⊎ (x < n) → (x < n → in_time_below ts n ≡ false) → in_time_below ts (suc n) ≡ false
    go (inl e) below = rw (lt-leb (demand_bound ts n) n (rw e at l))
    go (inr k) below = rw (below k) (none (leb (demand_bound ts n) n))

-- ---- of tasks and a common multiple of their periods

module _ (ts : List ChargedTask) (h : ℕ) (p : Posed ts h) where
  -- the times up to h tell of all times: at h itself the bound is what is charged until then
  pub to-all : InTimeFrom ts 0 (h + 1) → InTime ts
  to-all c =
      (enough ts h p.some p.timed p.common).1
      (omega (arith, c h (omega arith) (omega arith), bound_at ts h p.timed p.common), λ x l m. c x l (omega arith))

  fits : InTimeFrom ts 0 (h + 1) → all_charged_within h ts ≤ h
  fits c = omega (arith, c h (omega arith) (omega arith), bound_at ts h p.timed p.common)

  pub is_yes : InTimeFrom ts 0 (h + 1) → Yes ≡ edf_verdict ts h
  unfolding edf_verdict
  is_yes c = rw (le-leb (all_charged_within h ts) h (fits c), below-true ts (suc h) (λ x l m. c x l (omega arith)), edf_verdict)

  pub is_no : (x : ℕ) → x ≤ h → x < demand_bound ts x → No ≡ edf_verdict ts h
  unfolding edf_verdict
  is_no x l m = go (leb (all_charged_within h ts) h)
    where
      go : (b : Bool) → No ≡ cond (b && in_time_below ts (suc h)) Yes No
      go true = rw (below-false ts (suc h) x (omega arith) m)
      go false = refl

pub means-yes : (ts : List ChargedTask) → InTime ts → IsVerdict ts Yes
unfolding IsVerdict
means-yes ts f = f

pub means-no : (ts : List ChargedTask) (x : ℕ) → x < demand_bound ts x → IsVerdict ts No
unfolding IsVerdict
means-no ts x l f = omega (arith, f x)

-- ---- the searches

pub last-some : (ts : List ChargedTask) (a b : ℕ) (x : Ticks) → LastOverrun ts a b (Some x) → (a ≤ x.0) × (x.0 < b) × (x.0 < demand_bound ts x.0)
unfolding LastOverrun
last-some ts a b x p = (p.0, p.1, p.2)

pub last-none : (ts : List ChargedTask) (a b : ℕ) → LastOverrun ts a b None → InTimeFrom ts a b
unfolding LastOverrun
last-none ts a b p = p

-- between two times
pub middle-before : (a b : ℕ) → a < b → a + (b - a) / 2 < b
middle-before a b h = omega arith

-- two stretches of times, one after the other
pub in_time-joined : (ts : List ChargedTask) (a b : ℕ) → InTimeFrom ts 0 a → InTimeFrom ts a b → InTimeFrom ts 0 b
in_time-joined ts a b p q x l m = elim (dec_lt x a) [ yes k ↦ p x l k | no k ↦ q x (omega arith) m ]

pub first-some : (ts : List ChargedTask) (h : ℕ) (x : Ticks) → x.0 ≤ h → x.0 < demand_bound ts x.0 → InTimeFrom ts 0 x.0 → FirstOverrun ts h (Some x)
unfolding FirstOverrun
first-some ts h x l m p = (l, m, p)

pub first-none : (ts : List ChargedTask) (h : ℕ) → InTime ts → FirstOverrun ts h None
unfolding FirstOverrun
first-none ts h f = f

-- ---- what the computed verdict means

decided : (ts : List ChargedTask) (n : ℕ) → InTimeFrom ts 0 n ⊎ ((x : ℕ) × (x < n) × (x < demand_bound ts x))
decided ts zero = inl (λ x l m. absurd (omega arith))
decided ts (suc n) = go (decided ts n)
  where
    go : InTimeFrom ts 0 n ⊎ ((x : ℕ) × (x < n) × (x < demand_bound ts x)) → InTimeFrom ts 0 (suc n) ⊎ ((x : ℕ) × (x < suc n) × (x < demand_bound ts x))
    go (inr q) = inr (q.0, omega (arith, q.1), q.2)
    go (inl p) = elim (dec_lt n (demand_bound ts n)) [
      | yes l ↦ inr (n, omega arith, l)
      | no l ↦ inl (λ x a b. elim (dec_lt x n) [ yes k ↦ p x a k | no k ↦ (let e : x ≡ n = omega arith in rw e (omega (arith, l))) ])
    ]

pub verdict-means : (ts : List ChargedTask) (h : ℕ) → Posed ts h → IsVerdict ts (edf_verdict ts h)
verdict-means ts h p = go (decided ts (h + 1))
  where
    go : InTimeFrom ts 0 (h + 1) ⊎ ((x : ℕ) × (x < h + 1) × (x < demand_bound ts x)) → IsVerdict ts (edf_verdict ts h)
    go (inl c) = rw (← is_yes ts h p c) (means-yes ts (to-all ts h p c))
    go (inr q) = rw (← is_no ts h p q.0 (omega (arith, q.1)) q.2) (means-no ts q.0 q.2)
