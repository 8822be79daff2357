-- The least common multiple of the periods, found one period at a time; and what is charged in so many ticks.
use Rattle.std.proofs.Common.{ℕ, zero, suc, ◌+◌, ◌-◌, ◌*◌, ◌/◌, ◌%◌, ◌≤◌, ◌<◌, mul-le-mul_left, add-one, arith, ◌≡◌, refl, ap, sym, ◌∙◌, ◌↔◌, List, [], ◌∷◌, ◌++◌, length, get_or, take, Option, Some, None}
use Rattle.std.specs.Int.{◌∣◌}
use Rattle.std.proofs.Math.Nat.{dvd_refl, dvd_trans, one-dvd, le_of_dvd, add-mul-div_right, div-mul_cancel, mod-lt, mod-add-div'}
use Rattle.std.proofs.Math.Seq.{take-suc}
use Rattle.std.proofs.Math.Decide.{dec_lt}
use Rattle.std.proofs.lemmas.Bool.{le-leb, lt-leb}
use Rattle.std.proofs.lemmas.List.Sums.{sum_by-cons}
use Rattle.std.specs.List.{All}
use Rattle.cache.specs.declared.units.Ticks.{Ticks}
use Rattle.edf.specs.declared.charges.ChargedTask.{ChargedTask}
use Rattle.edf.specs.Charges.{no_charged_task}
use Rattle.edf.specs.Multiples.{lcm_of}
use Rattle.edf.specs.Bound.{jobs_within, demand_bound, InTime, InTimeFrom, Timed}
use Rattle.edf.specs.Hyperperiod.{lcm_from, hyperperiod, hyperperiod_within, CommonMultiple, LeastCommon, IsHyperperiod, charged_within, all_charged_within, Posed}
use Rattle.edf.proofs.MultiplesLaws.{lcm-least, lcm-pos}
use Rattle.edf.proofs.BoundLaws.{all-first, all-rest, jobs-quotient, bound-none, bound-cons, bound-start}

-- ---- one period more

lcm_from-snoc : (a : ℕ) (ts : List ChargedTask) (t : ChargedTask) → lcm_from a (ts ++ (t ∷ [])) ≡ lcm_of (lcm_from a ts) t.period.0
unfolding lcm_from
lcm_from-snoc a [] t = refl
lcm_from-snoc a (u ∷ ts) t = lcm_from-snoc (lcm_of a u.period.0) ts t

hyperperiod-next : (ts : List ChargedTask) (i : ℕ) → i < length ts
    → hyperperiod (take (i + 1) ts) ≡ lcm_of (hyperperiod (take i ts)) (get_or ts i no_charged_task).period.0
hyperperiod-next ts i h = rw (add-one, take-suc ts i no_charged_task) (lcm_from-snoc 1 (take i ts) (get_or ts i no_charged_task))

one-more : (a : ℕ) (t : ChargedTask) → 1 ≤ a → Timed t → (1 ≤ lcm_of a t.period.0) × (a ∣ lcm_of a t.period.0)
one-more a t h p = (lcm-pos a t.period.0 h (omega (arith, p.deadline, p.order)), (lcm-least a t.period.0 h).left)

-- ---- of all periods

lcm_from-start : (a : ℕ) (ts : List ChargedTask) → 1 ≤ a → All Timed ts → (1 ≤ lcm_from a ts) × (a ∣ lcm_from a ts)
unfolding lcm_from
lcm_from-start a [] h p = (h, dvd_refl a)
lcm_from-start a (t ∷ ts) h p =
    let s = one-more a t h (all-first Timed t ts p) in
    let r = lcm_from-start (lcm_of a t.period.0) ts s.0 (all-rest Timed t ts p) in
    (r.0, dvd_trans _ s.1 r.1)

all-none : {A : Type 0} (P : A → Type 0) → All P []
all-none P = λ k d h. absurd (omega arith)

all-cons : {A : Type 0} (P : A → Type 0) (t : A) (ts : List A) → P t → All P ts → All P (t ∷ ts)
all-cons P t ts p q zero d h = p
all-cons P t ts p q (suc k) d h = q k d (omega arith)

abbrev divides : ℕ → ChargedTask → Type 0
divides h t = t.period.0 ∣ h

lcm_from-common : (a : ℕ) (ts : List ChargedTask) → 1 ≤ a → All Timed ts → CommonMultiple (lcm_from a ts) ts
unfolding lcm_from
lcm_from-common a [] h p = all-none (divides a)
lcm_from-common a (t ∷ ts) h p =
    let b = lcm_of a t.period.0 in
    let s = one-more a t h (all-first Timed t ts p) in
    let q = all-rest Timed t ts p in
    all-cons (divides (lcm_from b ts)) t ts (dvd_trans _ (lcm-least a t.period.0 h).right (lcm_from-start b ts s.0 q).1) (lcm_from-common b ts s.0 q)

lcm_from-least : (a : ℕ) (ts : List ChargedTask) → 1 ≤ a → All Timed ts → (m : ℕ) → a ∣ m → CommonMultiple m ts → lcm_from a ts ∣ m
unfolding lcm_from
lcm_from-least a [] h p m d c = d
lcm_from-least a (t ∷ ts) h p m d c =
    lcm_from-least (lcm_of a t.period.0) ts (one-more a t h (all-first Timed t ts p)).0 (all-rest Timed t ts p) m
    ((lcm-least a t.period.0 h).least m d (all-first (divides m) t ts c)) (all-rest (divides m) t ts c)

pub hyperperiod-least : (ts : List ChargedTask) → All Timed ts → LeastCommon ts (hyperperiod ts)
hyperperiod-least ts p = record {
  some = (lcm_from-start 1 ts (omega arith) p).0;
  common = lcm_from-common 1 ts (omega arith) p;
  least = λ m c. lcm_from-least 1 ts (omega arith) p m (one-dvd m) c;
}

-- that of fewer periods is no larger
lcm_from-fewer : (a : ℕ) (ts : List ChargedTask) (i : ℕ) → 1 ≤ a → All Timed ts → lcm_from a (take i ts) ≤ lcm_from a ts
unfolding lcm_from
lcm_from-fewer a ts zero h p = let s = lcm_from-start a ts h p in le_of_dvd s.0 s.1
lcm_from-fewer a [] (suc i) h p = omega arith
lcm_from-fewer a (t ∷ ts) (suc i) h p =
    lcm_from-fewer (lcm_of a t.period.0) ts i (one-more a t h (all-first Timed t ts p)).0 (all-rest Timed t ts p)

-- ---- one turn of the loop, and its ends

pub hyperperiod-none : hyperperiod [] ≡ 1
unfolding lcm_from
hyperperiod-none = refl

pub horizon-more : (ts : List ChargedTask) (i h r : ℕ) → All Timed ts → i < length ts → h ≡ hyperperiod (take i ts) → 1 ≤ h
    → r ≡ lcm_of h (get_or ts i no_charged_task).period.0 → (r ≡ hyperperiod (take (i + 1) ts)) × (1 ≤ r)
horizon-more ts i h r p l e s q =
    let t = p i no_charged_task l in (
      rw (hyperperiod-next ts i l, ← e) q,
      rw q (lcm-pos h (get_or ts i no_charged_task).period.0 s (omega (arith, t.deadline, t.order))),
    )

far : (ts : List ChargedTask) → 250000000 < hyperperiod ts → None ≡ hyperperiod_within ts
unfolding hyperperiod_within
far ts h = rw (lt-leb (hyperperiod ts) 250000000 h, hyperperiod_within)

pub beyond : (ts : List ChargedTask) (i : ℕ) → All Timed ts → 250000000 < hyperperiod (take i ts) → None ≡ hyperperiod_within ts
beyond ts i p h = far ts (omega (arith, h, lcm_from-fewer 1 ts i (omega arith) p))

pub within : (ts : List ChargedTask) → hyperperiod ts ≤ 250000000 → Some (record { 0 = hyperperiod ts }) ≡ hyperperiod_within ts
unfolding hyperperiod_within
within ts h = rw (le-leb (hyperperiod ts) 250000000 h, hyperperiod_within)

clash : (h : Ticks) → Some h ≡ None → ⊥
clash h e = cc

pub posed : (ts : List ChargedTask) (h : Ticks) → All Timed ts → Some h ≡ hyperperiod_within ts → Posed ts h.0
posed ts h p e = elim (dec_lt 250000000 (hyperperiod ts)) [
  | yes l ↦ absurd (clash h (e ∙ sym (far ts l)))
  | no l ↦ (
      let near : hyperperiod ts ≤ 250000000 = omega arith in
      let same : h.0 ≡ hyperperiod ts = (let q = within ts near in cc) in
      let m = hyperperiod-least ts p in
      record { timed = p; some = rw same m.some; near = rw same near; common = rw same m.common }
      )
]

-- there is one least common multiple
least-same : (ts : List ChargedTask) (a b : ℕ) → LeastCommon ts a → LeastCommon ts b → a ≤ b
least-same ts a b p q = le_of_dvd q.some (p.least b q.common)

pub means-within : (ts : List ChargedTask) → All Timed ts → (r : Option Ticks) → r ≡ hyperperiod_within ts → IsHyperperiod ts r
unfolding IsHyperperiod
means-within ts p None e = λ h q. elim (dec_lt 250000000 (hyperperiod ts)) [
  | yes l ↦ omega (arith, l, least-same ts (hyperperiod ts) h (hyperperiod-least ts p) q)
  | no l ↦ absurd (clash _ (within ts (omega arith) ∙ sym e))
]
means-within ts p (Some h) e = elim (dec_lt 250000000 (hyperperiod ts)) [
  | yes l ↦ absurd (clash h (e ∙ sym (far ts l)))
  | no l ↦ (
      let near : hyperperiod ts ≤ 250000000 = omega arith in
      let same : h.0 ≡ hyperperiod ts = (let q = within ts near in cc) in
      (rw same (hyperperiod-least ts p), rw same near)
      )
]

-- tasks whose least common multiple is not above it have that one
pub within-least : (ts : List ChargedTask) (h : ℕ) → All Timed ts → LeastCommon ts h → h ≤ 250000000 → Some (record { 0 = h }) ≡ hyperperiod_within ts
within-least ts h p q near =
    let m = hyperperiod-least ts p in
    let e : h ≡ hyperperiod ts = omega (arith, least-same ts h (hyperperiod ts) q m, least-same ts (hyperperiod ts) h m q) in
    rw e (within ts (omega (arith, near)))

-- ---- some common multiples of the periods later

charged-none : (h : ℕ) → all_charged_within h [] ≡ 0
unfolding all_charged_within
charged-none h = refl

charged-cons : (h : ℕ) (t : ChargedTask) (ts : List ChargedTask) → all_charged_within h (t ∷ ts) ≡ charged_within h t + all_charged_within h ts
unfolding all_charged_within
charged-cons h t ts = sum_by-cons (charged_within h) t ts

-- as many jobs more as fit into them
jobs-later : (x q h : ℕ) (t : ChargedTask) → Timed t → t.period.0 ∣ h → jobs_within (x + q * h) t ≡ jobs_within x t + q * (h / t.period.0)
jobs-later x q h t p d =
    let T = t.period.0 in
    let r = T - t.deadline.0 in
    let e : x + q * h + r ≡ x + r + q * (h / T) * T = omega (arith, ap (λ (z : ℕ). q * z) (div-mul_cancel T d)) in
    rw (jobs-quotient (x + q * h) t p, jobs-quotient x t p, e) (add-mul-div_right (x + r) (q * (h / T)) {z = T} (omega (arith, p.deadline, p.order)))

pub bound-later : (ts : List ChargedTask) (h : ℕ) → All Timed ts → CommonMultiple h ts → (x q : ℕ) → demand_bound ts (x + q * h) ≡ demand_bound ts x + q * all_charged_within h ts
bound-later [] h p d x q = omega (arith, bound-none x, bound-none (x + q * h), ap (λ (n : ℕ). q * n) (charged-none h))
bound-later (t ∷ ts) h p d x q =
    omega (
      arith,
      bound-cons t ts x,
      bound-cons t ts (x + q * h),
      ap (λ (n : ℕ). q * n) (charged-cons h t ts),
      bound-later ts h (all-rest Timed t ts p) (all-rest (divides h) t ts d) x q,
      ap (λ (j : ℕ). j * t.time.0) (jobs-later x q h t (all-first Timed t ts p) (all-first (divides h) t ts d)),
    )

-- at a common multiple it is what is charged until then
pub bound_at : (ts : List ChargedTask) (h : ℕ) → All Timed ts → CommonMultiple h ts → demand_bound ts h ≡ all_charged_within h ts
bound_at ts h p d =
    let e : 0 + 1 * h ≡ h = omega arith in
    omega (arith, bound-later ts h p d 0 1, bound-start ts p, ap (demand_bound ts) e)

-- it is enough to look up to a common multiple h of the periods, once the charged times fit
pub enough : (ts : List ChargedTask) (h : ℕ) → 1 ≤ h → All Timed ts → CommonMultiple h ts
    → InTime ts ↔ ((all_charged_within h ts ≤ h) × InTimeFrom ts 0 h)
enough ts h some p d = (
  (λ f. (omega (arith, f h, bound_at ts h p d), λ x _ _. f x)),
  (λ e x. omega (
    arith,
    mod-add-div' x h,
    ap (demand_bound ts) (mod-add-div' x h),
    bound-later ts h p d (x % h) (x / h),
    mul-le-mul_left (x / h) e.0,
    e.1 (x % h) (omega arith) (mod-lt x {m = h} some),
  )),
)
