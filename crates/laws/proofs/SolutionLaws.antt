-- What is found by trying each time is the smallest solution.
use Rattle.std.proofs.Common.{ℕ, ◌≤◌, ◌<◌, ◌≡◌, arith, sym, subst, ◌∙◌, lt_of_not-le}
use Rattle.std.proofs.Math.Decide.{dec_le, dec_lt}
use Rattle.search.specs.declared.demand.Response.TheVariants.{Within, Unschedulable}
use Rattle.search.specs.declared.demand.Response.{Response}
use Rattle.search.specs.Least.{least_of, LeastWithin}
use Rattle.search.proofs.LeastLaws.{least_of-least, least-is, answer-under}
use Rattle.laws.specs.Solutions.{IsSmallest}

module _ (demand : ℕ → ℕ) (limit : ℕ) where
  pub is-smallest : (r : Response) → r ≡ least_of demand limit → IsSmallest demand limit r
  is-smallest r e = record {
    means = subst (LeastWithin demand limit) (sym e) (least_of-least demand limit);
    only = λ s p. least-is demand limit s p ∙ sym e;
    under = λ rises time l p. let w = answer-under demand rises limit time l p in (w.0, e ∙ w.1, w.2);
  }

  -- ---- each time is tried, from 0 on, and none below r equals its demand

  module _ (r : ℕ) (none : (s : ℕ) → s < r → s ≡ demand s → ⊥) where
    pub first-found : r ≤ limit → r ≡ demand r → Within (record { 0 = r }) ≡ least_of demand limit
    unfolding LeastWithin
    first-found h e =
        least-is demand limit (Within (record { 0 = r })) (h, e, λ s q. elim (dec_le r s) [ yes l ↦ l | no l ↦ absurd (none s (lt_of_not-le l) q) ])

    pub none-found : limit ≤ r → (demand r ≡ r → ⊥) → Unschedulable ≡ least_of demand limit
    unfolding LeastWithin
    none-found h other =
        least-is demand limit Unschedulable
        (λ s q l. elim (dec_lt s r) [
          | yes m ↦ none s m q
          | no m ↦ (let same : s ≡ r = omega arith in other (rw same at (sym q)))
        ])
