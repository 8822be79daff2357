-- Facts about shares of the processor.
use Rattle.std.proofs.Common.{ℕ, zero, suc, ◌+◌, ◌*◌, ◌≤◌, ◌<◌, zero-le, div-mul-le_self, eq-or-lt_of_le, mul-le-mul_left, mul-le-mul_right, add-one, arith, ◌≡◌, refl, sym, ap, ◌⊎◌, inl, inr}
use Rattle.search.specs.declared.demand.Response.TheVariants.{Unschedulable}
use Rattle.search.specs.declared.demand.Term.{Term}
use Rattle.search.specs.Demand.{ceil, work_of, demand_of}
use Rattle.search.specs.Terms.{InRange}
use Rattle.search.specs.Least.{least_of}
use Rattle.search.proofs.PositionLaws.{fold-none, fold_next}
use Rattle.search.proofs.LeastLaws.{no-solution}
use Rattle.search.proofs.DemandLaws.{ceil-mul, demand-none, demand-next}
use Rattle.search.specs.Shares.{share_of, shares_of}

-- ---- one term

-- up to its last release before s a term asks for its share at least
share-le : (r q c w t : ℕ) → r ≤ c * t → q * t ≤ w * 17179869184 → r * q ≤ 17179869184 * (c * w)
share-le r q c w t h k = omega (arith, mul-le-mul_right q h, mul-le-mul_left c k)

pub release-share : (s z : ℕ) (t : Term) → z ≤ ceil (s + t.jitter.0) t.period.0 * t.period.0 → z * share_of t ≤ 17179869184 * work_of s t
release-share s z t h =
    share-le z (share_of t) (ceil (s + t.jitter.0) t.period.0) t.weight.0 t.period.0 h (div-mul-le_self (t.weight.0 * 17179869184) t.period.0)

-- in s ticks it asks for its share of them and of its jitter
pub work-share : (s : ℕ) (t : Term) → InRange t → (s + t.jitter.0) * share_of t ≤ 17179869184 * work_of s t
work-share s t p = release-share s (s + t.jitter.0) t (ceil-mul (s + t.jitter.0) t.period.0 p.period)

-- ---- the first n terms together

module _ (t : ℕ → Term) where
  pub shares-none : shares_of t 0 ≡ 0
  unfolding shares_of
  shares-none = fold-none ◌+◌ 0 (λ j. share_of (t j)) 0

  pub shares-next : (n : ℕ) → shares_of t (n + 1) ≡ shares_of t n + share_of (t n)
  unfolding shares_of
  shares-next n = sym (fold_next ◌+◌ 0 (λ j. share_of (t j)) 0 n _ _ zero-le refl refl)

  -- each is one of them
  pub share-one : (n j : ℕ) → j < n → share_of (t j) ≤ shares_of t n
  share-one zero j h = absurd (omega arith)
  share-one (suc n) j h = go (eq-or-lt_of_le (omega arith)) (share-one n j)
    where
      go : (j ≡ n) ⊎ (j < n) → (j < n → share_of (t j) ≤ shares_of t n) → share_of (t j) ≤ shares_of t (suc n)
      go (inl e) rest = rw e (omega (arith, rw add-one at (shares-next n)))
      go (inr l) rest = omega (arith, rest l, rw add-one at (shares-next n))

  -- the demand is no less than the task's own work and the shares
  load-demand : (own n r : ℕ) → ((j : ℕ) → j < n → InRange (t j))
      → own * 17179869184 + r * shares_of t n ≤ 17179869184 * demand_of own t n r
  load-demand own zero r p = omega (arith, ap (λ (x : ℕ). r * x) shares-none, demand-none own t r)
  load-demand own (suc n) r p =
      omega (
        arith,
        load-demand own n r (λ j l. p j (omega arith)),
        work-share r (t n) (p n (omega arith)),
        ap (λ (x : ℕ). r * x) (rw add-one at (shares-next n)),
        rw add-one at (demand-next own t r n),
      )

  -- no time equals its demand where the terms take the whole processor
  pub full : (own n limit : ℕ) → ((j : ℕ) → j < n → InRange (t j)) → 1 ≤ own → 17179869184 ≤ shares_of t n
      → Unschedulable ≡ least_of (demand_of own t n) limit
  full own n limit p h k = no-solution _ limit (λ s e. omega (arith, load-demand own n s p, mul-le-mul_left s k))
