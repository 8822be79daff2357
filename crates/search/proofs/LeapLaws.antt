-- Facts about what the rounds ask for ahead, and how far a solution is away by it.
use Rattle.std.proofs.Common.{ℕ, ◌+◌, ◌-◌, ◌*◌, ◌≤◌, ◌<◌, lt_of_not-le, arith, ◌≡◌, refl, ap, ◌⊎◌, inl, inr, List}
use Rattle.std.proofs.Math.Decide.{dec_le}
use Rattle.search.specs.declared.demand.Term.{Term}
use Rattle.search.specs.declared.rounds.Rounds.{Rounds}
use Rattle.search.specs.Demand.{ceil, work_of, demand_of}
use Rattle.search.specs.Terms.{InRange}
use Rattle.search.specs.Least.{Reached}
use Rattle.search.specs.Classes.{before_class, taken, counted, works_over, AskMore}
use Rattle.search.specs.Rounds.{IsStep, window_at, Windowed, RoundsOf}
use Rattle.search.proofs.LeastLaws.{reached-below}
use Rattle.search.proofs.DemandLaws.{ceil-le, work-later, demand-mono}
use Rattle.search.proofs.ClassLaws.{over-le, demand-parts, all-parts, ask-none, ask-next, ask-up}

-- the steps from the shortest windows to the longest
pub step-some : (step : ℕ) → IsStep step ⊎ (step ≡ 256) → step ≤ 64 → IsStep step
step-some step (inl is) h = is
step-some step (inr e) h = absurd (omega arith)

pub step-first : IsStep 16
step-first = inl refl

pub step-next : (step : ℕ) → IsStep step → IsStep (step * 4) ⊎ (step * 4 ≡ 256)
step-next step (inl e) = rw e (inl (inr refl))
step-next step (inr e) = rw e (inr refl)

pub step-least : (step : ℕ) → IsStep step → (16 ≤ step) × (step ≤ 64)
step-least step (inl e) = (omega arith, omega arith)
step-least step (inr e) = (omega arith, omega arith)

-- what the rounds before v ask for beyond their shares, for as long as four steps from r on
pub record Ahead (t : ℕ → Term) (n : ℕ) (classes : List ℕ) (step r v ahead : ℕ) : Type 0 where
  pub most : ahead ≤ v * 18014398509481984
  pub asked : (d : ℕ) → d < 4 * step → AskMore (before_class classes v) t n ahead (r + d)

module _ (t : ℕ → Term) (n : ℕ) (classes : List ℕ) (step r : ℕ) where
  pub ahead_none : Ahead t n classes step r 0 0
  ahead_none = record { most = omega arith; asked = λ d l. ask-none classes t n (r + d) }

  pub ahead-next : (v ahead ticks : ℕ) (entries : List ℕ) → IsStep step → Windowed t n classes v ticks entries
      → Ahead t n classes step r v ahead → Ahead t n classes step r (v + 1) (ahead + window_at entries v ticks step r)
  ahead-next v ahead ticks entries is w a = record {
    most = omega (arith, a.most, w.most step r is);
    asked = λ d l. ask-next classes t n (r + d) v _ _ (a.asked d l) (w.asked step r d is l);
  }

  -- those of all rounds are taken, and so are those that are taken by their shares alone
  pub ahead-all : (made ahead : ℕ) → made ≤ 8 → ((j : ℕ) → j < n → InRange (t j)) → Ahead t n classes step r made ahead
      → (d : ℕ) → d < 4 * step → AskMore (taken classes) t n ahead (r + d)
  ahead-all made ahead few ranged a d l =
      let e : made + (9 - made) ≡ 9 = omega arith in
      rw e at (ask-up classes t n (r + d) made (9 - made) ahead ranged (a.asked d l))

module _ (own : ℕ) (t : ℕ → Term) (n : ℕ) (rounds : Rounds) (entries : List ℕ) (ranged : (j : ℕ) → j < n → InRange (t j)) (p : RoundsOf t n rounds entries) where
  -- no solution that the taken terms ask for so much more is before what is left free has done what is counted
  free-does : (r s more work : ℕ) → work ≡ own + works_over (counted rounds.classes) t n r → r ≤ s → s ≡ demand_of own t n s
      → AskMore (taken rounds.classes) t n more s → ceil (work * 17179869184 + more) rounds.free ≤ s
  free-does r s more work is h e ask =
      (ceil-le (work * 17179869184 + more) s rounds.free p.free-least).1
      (omega (
        arith,
        is,
        e,
        ask,
        demand-parts (taken rounds.classes) (counted rounds.classes) own t s n (all-parts rounds.classes 9),
        over-le (counted rounds.classes) (λ j. work_of r (t j)) (λ j. work_of s (t j)) n (λ j l. work-later r s (t j) (ranged j l) h),
        ap (λ (x : ℕ). s * x) p.free-is,
      ))

  module _ (r work : ℕ) (at : Reached (demand_of own t n) r) (is : work ≡ own + works_over (counted rounds.classes) t n r) where
    -- by what they ask for at any time
    pub leapt-all : Reached (demand_of own t n) (ceil (work * 17179869184 + rounds.low) rounds.free)
    leapt-all = reached-below _ (demand-mono t n own ranged) _ (λ s e. free-does r s rounds.low work is (at.below s e) e (p.low-asked s))

    -- by what they ask for in some windows, for as long as these are
    pub leapt-soon : (step ahead soon : ℕ) → Ahead t n rounds.classes step r rounds.made ahead
        → soon ≤ ceil (work * 17179869184 + ahead) rounds.free → soon ≤ r + 4 * step → Reached (demand_of own t n) soon
    leapt-soon step ahead soon a within near = reached-below _ (demand-mono t n own ranged) _ (λ s e. elim (dec_le (r + 4 * step) s) [
      | yes l ↦ omega arith
      | no l ↦ (
          let m = lt_of_not-le l in
          let h = at.below s e in
          let k : r + (s - r) ≡ s = omega arith in
          let q = ahead-all t n rounds.classes step r rounds.made ahead p.few ranged a (s - r) (omega arith) in
          omega (arith, free-does r s ahead work is h e (rw k at q)))
    ])
