-- Facts about the hastened iteration.
use Rattle.std.proofs.Common.{ℕ, ◌+◌, ◌-◌, ◌*◌, ◌≤◌, ◌<◌, div-mul-le_self, div-le_self, mul-le-mul_right, arith, ◌≡◌, sym, ap}
use Rattle.search.specs.declared.hasten.Part.{Part}
use Rattle.search.specs.declared.demand.Term.{Term}
use Rattle.search.specs.Demand.{ceil, work_of, demand_of}
use Rattle.search.specs.Terms.{InRange}
use Rattle.search.specs.Least.{Reached}
use Rattle.search.specs.Shares.{share_of}
use Rattle.search.proofs.ShareLaws.{work-share}
use Rattle.search.specs.Hasten.{PartOf, TurnOf}
use Rattle.search.proofs.LeastLaws.{Monotone, climb}
use Rattle.search.proofs.DemandLaws.{ceil-le, work-later, jitter-most, demand-none, demand-next}

-- ---- the bound: what is left of the processor has to do the work that is counted

reached-by : (f : ℕ → ℕ) (r left x : ℕ) → 1 ≤ left → left ≤ 17179869184
    → ((s : ℕ) → r ≤ s → x + s * 17179869184 ≤ 17179869184 * f s + s * left) → Reached f r → r ≤ ceil x left → Reached f (ceil x left)
reached-by f r left x least most sound at h = record {
  below = λ s e. (ceil-le x s left least).1 (omega (arith, sound s (at.below s e)));
  rises = let q = ceil x left in omega (arith, sound q h, div-mul-le_self (x + (left - 1)) left);
}

-- ---- what one term adds

shared-sound : (s J q rest left w : ℕ) → left ≡ rest + q → (s + J) * q ≤ 17179869184 * w
    → 0 * 17179869184 + J * q + s * left ≤ 17179869184 * w + s * rest
shared-sound s J q rest left w e h = omega (arith, ap (λ (x : ℕ). s * x) e)

module _ (t : Term) (r left w : ℕ) (p : InRange t) (is : w ≡ work_of r t) (most : w ≤ 250000000000000000) where
  pub part-counted : 1 ≤ left → PartOf t r left (record { work = w; counted = w; extra = 0; left = left })
  part-counted h = record {
    work-is = is;
    work-most = most;
    counted-most = omega arith;
    left-least = h;
    left-most = omega arith;
    extra-most = omega arith;
    sound = λ s l. omega (arith, work-later r s t p l);
  }

  pub part-shared : (q : ℕ) → q ≡ share_of t → q < left → PartOf t r left (record { work = w; counted = 0; extra = t.jitter.0 * q; left = left - q })
  part-shared q e h = record {
    work-is = is;
    work-most = most;
    counted-most = omega arith;
    left-least = omega arith;
    left-most = omega arith;
    extra-most = omega (arith, mul-le-mul_right q (jitter-most t p));
    sound = λ s l. shared-sound s t.jitter.0 q (left - q) left (work_of s t) (omega arith) (rw e (work-share s t p));
  }

-- ---- a turn

-- after the first i terms: their demand, what of it is counted, the shares' jitters, and what the shares leave of the processor
pub record Turning (own : ℕ) (t : ℕ → Term) (r i demand counted extra left : ℕ) : Type 0 where
  pub demand-is : demand ≡ demand_of own t i r
  pub demand-most : demand ≤ own + i * 250000000000000000
  pub counted-most : counted ≤ demand
  pub left-least : 1 ≤ left
  pub left-most : left ≤ 17179869184
  pub extra-most : extra + 250000000 * left ≤ 4294967296000000000
  pub sound : (s : ℕ) → r ≤ s → counted * 17179869184 + extra + s * 17179869184 ≤ 17179869184 * demand_of own t i s + s * left

module _ (own : ℕ) (t : ℕ → Term) (r : ℕ) where
  pub turning-none : Turning own t r 0 own own 0 17179869184
  turning-none = record {
    demand-is = sym (demand-none own t r);
    demand-most = omega arith;
    counted-most = omega arith;
    left-least = omega arith;
    left-most = omega arith;
    extra-most = omega arith;
    sound = λ s h. omega (arith, demand-none own t s);
  }

  pub turning-next : (i demand counted extra left : ℕ) (p : Part) → Turning own t r i demand counted extra left → PartOf (t i) r left p
      → Turning own t r (i + 1) (demand + p.work) (counted + p.counted) (extra + p.extra) p.left
  turning-next i demand counted extra left p a b = record {
    demand-is = omega (arith, a.demand-is, b.work-is, demand-next own t r i);
    demand-most = omega (arith, a.demand-most, b.work-most);
    counted-most = omega (arith, a.counted-most, b.counted-most);
    left-least = b.left-least;
    left-most = omega (arith, a.left-most, b.left-most);
    extra-most = omega (arith, a.extra-most, b.extra-most);
    sound = λ s h. omega (arith, a.sound s h, b.sound s h, demand-next own t s i);
  }

  module _ (n demand counted extra left : ℕ) (a : Turning own t r n demand counted extra left) (few : n ≤ 32) (own-most : own ≤ 500000000) where
    pub turned_plain : Monotone (demand_of own t n) → TurnOf (demand_of own t n) r (record { demand = demand; next = demand })
    turned_plain mono = record {
      demand-is = a.demand-is;
      later = omega arith;
      most = omega (arith, a.demand-most);
      reached = λ at. rw a.demand-is (climb _ mono _ at);
    }

    pub turned-later : counted ≤ 250000000 → demand < ceil (counted * 17179869184 + extra) left
        → TurnOf (demand_of own t n) r (record { demand = demand; next = ceil (counted * 17179869184 + extra) left })
    turned-later h l = record {
      demand-is = a.demand-is;
      later = omega arith;
      most = omega (arith, a.extra-most, a.left-most, div-le_self (counted * 17179869184 + extra + (left - 1)) left);
      reached = λ at. reached-by (demand_of own t n) r left (counted * 17179869184 + extra) a.left-least a.left-most a.sound at
          (omega (arith, at.rises, a.demand-is));
    }
