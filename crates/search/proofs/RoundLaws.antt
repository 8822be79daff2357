-- Facts about what is asked for in a round.
use Rattle.std.proofs.Common.{ℕ, ◌+◌, ◌-◌, ◌*◌, ◌/◌, ◌%◌, ◌≤◌, ◌<◌, div-mul-le_self, div-add-mod', mod-lt, arith, ◌≡◌, refl, sym, ap, subst, ◌∙◌, Bool, true, false, cond, ◌&&◌, ◌⊎◌, inl, inr, List, eqb, get_or, length, replicate, eq-eqb, eqb-true}
use Rattle.std.proofs.lemmas.Bool.{false≢true}
use Rattle.std.proofs.lemmas.List.{get_or-replicate, length-replicate}
use Rattle.search.specs.declared.demand.Term.{Term}
use Rattle.search.specs.Demand.{ceil, work_of}
use Rattle.search.specs.Terms.{InRange}
use Rattle.search.proofs.DemandLaws.{ceil-mul, ceil-is}
use Rattle.search.specs.Shares.{share_of}
use Rattle.search.proofs.ShareLaws.{release-share, work-share}
use Rattle.search.specs.Classes.{in_class, AskMore}
use Rattle.search.specs.Rounds.{lack_of, lack_in, lacks_of, Added, LacksIn, LeastOver, IsStep, place_of, WindowsIn, Windowed, Tabled}
use Rattle.search.proofs.ClassLaws.{over_none, over-next, ask-each}

-- ---- one term

ceil-before : (x t : ℕ) → 1 ≤ t → ceil x t * t < x + t
ceil-before x t h = omega (arith, div-mul-le_self (x + (t - 1)) t)

-- a term added at the first i ticks, and not yet at the others
pub record Adding (period jitter share i : ℕ) (before after : List ℕ) : Type 0 where
  pub long : length after ≡ 16704
  pub each : (x : ℕ) → x < i → get_or after x 0 ≡ get_or before x 0 + lack_of period jitter share x
  pub rest : (x : ℕ) → i ≤ x → get_or after x 0 ≡ get_or before x 0

-- in a round that the period divides, the releases come again
module _ (ticks : ℕ) (t : Term) (p : InRange t) where
  comes-again : (c x : ℕ) → ticks % t.period.0 ≡ 0
      → ceil (x + t.jitter.0) t.period.0 * t.period.0 + c * ticks ≡ ceil (c * ticks + x + t.jitter.0) t.period.0 * t.period.0
  comes-again c x divides =
      let T = t.period.0 in
      let J = t.jitter.0 in
      let a = ceil (x + J) T in
      let k = ticks / T in
      let whole : ticks ≡ k * T = omega (arith, div-add-mod' ticks T) in
      let far : c * ticks ≡ c * k * T = omega (arith, ap (λ (z : ℕ). c * z) whole) in
      let e : a + c * k ≡ ceil (c * ticks + x + J) T =
      ceil-is (c * ticks + x + J) (a + c * k) T p.period (omega (arith, ceil-mul (x + J) T p.period)) (omega (arith, ceil-before (x + J) T p.period)) in
      omega (arith, ap (λ (z : ℕ). z * T) e)

  -- so that the term asks for as much beyond its share in each
  lack-asked : (c x : ℕ) → lack_in ticks t x + (c * ticks + x) * share_of t ≤ 17179869184 * work_of (c * ticks + x) t
  lack-asked c x = go (eqb (ticks % t.period.0) 0) refl
    where
      go : (b : Bool) → eqb (ticks % t.period.0) 0 ≡ b
          → cond b (lack_of t.period.0 t.jitter.0 (share_of t) x) 0 + (c * ticks + x) * share_of t ≤ 17179869184 * work_of (c * ticks + x) t
      go true e =
          let q = share_of t in
          let z = ceil (x + t.jitter.0) t.period.0 * t.period.0 in
          let up : z - x + x ≡ z = omega (arith, ceil-mul (x + t.jitter.0) t.period.0 p.period) in
          omega (
            arith,
            ap (λ (y : ℕ). y * q) up,
            release-share (c * ticks + x) (z + c * ticks) t (omega (arith, comes-again c x (eqb-true _ _ e))),
          )
      go false e = omega (arith, work-share (c * ticks + x) t p)

-- and so do the terms of a round together
module _ (classes : List ℕ) (round ticks : ℕ) (t : ℕ → Term) (n : ℕ) (ranged : (j : ℕ) → j < n → InRange (t j)) where
  lacks-asked : (c x : ℕ) → AskMore (in_class classes round) t n (lacks_of classes round ticks t n x) (c * ticks + x)
  unfolding lacks_of
  lacks-asked c x = ask-each (in_class classes round) t (c * ticks + x) (λ j. lack_in ticks (t j) x) n (λ j l. lack-asked ticks (t j) (ranged j l) c x)

-- ---- one term more of a round, or of none

pub both-equal : (a b c d : ℕ) → (eqb a b && eqb c d) ≡ true → (a ≡ b) × (c ≡ d)
both-equal a b c d h = go (eqb a b) (eqb c d) refl refl h
  where
    go : (x y : Bool) → eqb a b ≡ x → eqb c d ≡ y → (x && y) ≡ true → (a ≡ b) × (c ≡ d)
    go true true e f h = (eqb-true _ _ e, eqb-true _ _ f)
    go true false e f h = absurd (false≢true h)
    go false y e f h = absurd (false≢true h)

module _ (classes : List ℕ) (round ticks : ℕ) (t : ℕ → Term) where
  lacks_none : (x : ℕ) → lacks_of classes round ticks t 0 x ≡ 0
  unfolding lacks_of
  lacks_none x = over_none (in_class classes round) (λ j. lack_in ticks (t j) x)

  lacks-next : (n x : ℕ) → lacks_of classes round ticks t (n + 1) x ≡ lacks_of classes round ticks t n x + cond (in_class classes round n) (lack_in ticks (t n) x) 0
  unfolding lacks_of
  lacks-next n x = over-next (in_class classes round) (λ j. lack_in ticks (t j) x) n

  pub lacks-in_none : (count : ℕ) → count ≤ 16704 → LacksIn t 0 classes round ticks count (replicate 16704 0)
  lacks-in_none count few = record {
    lacking = record { long = length-replicate {A = ℕ} 16704 0; most = λ x l. omega (arith, get_or-replicate {A = ℕ} 16704 x 0 0 (omega arith)) };
    each = λ x l. get_or-replicate {A = ℕ} 16704 x 0 0 (omega arith) ∙ sym (lacks_none x);
  }

  pub lacks-in-one : (n count share : ℕ) (before after : List ℕ) → get_or classes n 0 ≡ round → ticks % (t n).period.0 ≡ 0 → share ≡ share_of (t n)
      → LacksIn t n classes round ticks count before → Added (t n).period.0 (t n).jitter.0 share count before after
      → LacksIn t (n + 1) classes round ticks count after
  lacks-in-one n count share before after e f q r d = record {
    lacking = record { long = d.long; most = λ x l. omega (arith, d.each x l, d.each-most x l, r.lacking.most x l) };
    each = λ x l. omega (
      arith,
      rw q at (d.each x l),
      r.each x l,
      rw (eq-eqb _ _ e, eq-eqb _ _ f) at (lacks-next n x),
    );
  }

  pub lacks-in-other : (n count : ℕ) (lacks : List ℕ) → (eqb (get_or classes n 0) round && eqb (ticks % (t n).period.0) 0) ≡ false
      → LacksIn t n classes round ticks count lacks → LacksIn t (n + 1) classes round ticks count lacks
  lacks-in-other n count lacks h r = record {
    lacking = record { long = r.lacking.long; most = λ x l. omega (arith, r.lacking.most x l) };
    each = λ x l. omega (arith, r.each x l, lacks-next n x, neither (eqb (get_or classes n 0) round) (eqb (ticks % (t n).period.0) 0) (lack_of (t n).period.0 (t n).jitter.0 (share_of (t n)) x) h);
  }
    where
      neither : (a b : Bool) (y : ℕ) → (a && b) ≡ false → cond a (cond b y 0) 0 ≡ 0
      neither true true y h = absurd (false≢true (sym h))
      neither true false y h = refl
      neither false b y h = refl

-- ---- windows

-- what holds of each step
by-step : (P : ℕ → Type 0) → P 16 → P 64 → (step : ℕ) → IsStep step → P step
by-step P a b step (inl e) = subst P (sym e) a
by-step P a b step (inr e) = subst P (sym e) b

-- the windows before the k-th are made, and the other entries stand
pub record Opening (lacks : List ℕ) (step first k : ℕ) (before after : List ℕ) : Type 0 where
  pub long : length after ≡ 16384
  pub each : (j : ℕ) → j < k → LeastOver lacks (step * j) (5 * step) (get_or after (first + j) 0)
  pub others : (i : ℕ) → (i < first) ⊎ (first + k ≤ i) → get_or after i 0 ≡ get_or before i 0

-- when all windows of a round are made
module _ (lacks : List ℕ) (round ticks : ℕ) (before after : List ℕ) where
  Whole : ℕ → Type 0
  Whole step = (k : ℕ) → (ticks + (step - 1)) / step ≤ k → k ≤ (ticks + (step - 1)) / step
      → Opening lacks step (2048 * round + 16384 / step) k before after → WindowsIn lacks round ticks step before after

  whole-of : (step : ℕ) → ((k j : ℕ) → (ticks + (step - 1)) / step ≤ k → j * step < ticks → j < k)
      → ((ticks + (step - 1)) / step ≤ 16384 / step) → Whole step
  unfolding Whole
  whole-of step all few k least most o = record {
    long = o.long;
    each = λ j l. o.each j (all k j least l);
    others = λ i l. o.others i (apart i l);
  }
    where
      apart : (i : ℕ) → (i < 2048 * round + 16384 / step) ⊎ (2048 * round + 2 * (16384 / step) ≤ i) → (i < 2048 * round + 16384 / step) ⊎ (2048 * round + 16384 / step + k ≤ i)
      apart i (inl h) = inl h
      apart i (inr h) = inr (omega arith)

  pub opened : (step : ℕ) → IsStep step → ticks ≤ 16384 → (k : ℕ) → (ticks + (step - 1)) / step ≤ k → k ≤ (ticks + (step - 1)) / step
      → Opening lacks step (2048 * round + 16384 / step) k before after → WindowsIn lacks round ticks step before after
  unfolding Whole
  opened step is short =
      by-step Whole
      (whole-of 16 (λ k j h l. omega arith) (omega arith))
      (whole-of 64 (λ k j h l. omega arith) (omega arith))
      step is

-- ---- all windows of a round

module _ (t : ℕ → Term) (n : ℕ) (classes : List ℕ) (round ticks count : ℕ) (lacks : List ℕ) (few : n ≤ 32) (ranged : (j : ℕ) → j < n → InRange (t j))
    (some : 1 ≤ ticks) (short : ticks ≤ 16384) (all : count ≡ ticks + 320)
    (l : LacksIn t n classes round ticks count lacks) where
  -- what is lacking some time after s is asked for then
  lacking-asked : (s d r : ℕ) → s % ticks + d < count → r ≤ get_or lacks (s % ticks + d) 0 → AskMore (in_class classes round) t n r (s + d)
  lacking-asked s d r h le =
      let x = s % ticks + d in
      let e : s / ticks * ticks + x ≡ s + d = omega (arith, div-add-mod' s ticks) in
      omega (arith, l.each x h, rw e at (lacks-asked classes round ticks t n ranged (s / ticks) x))

  -- the least of a whole round
  module _ (low : ℕ) (least : LeastOver lacks 0 ticks low) where
    low-bound : low ≤ 18014398509481984
    low-bound = omega (arith, least 0 (omega arith) (omega arith), l.lacking.most 0 (omega arith))

    low-is-asked : (s : ℕ) → AskMore (in_class classes round) t n low s
    low-is-asked s =
        let h : s % ticks < ticks = mod-lt s some in
        let e : s + 0 ≡ s = omega arith in
        rw e at (lacking-asked s 0 low (omega arith) (least (s % ticks + 0) (omega arith) (omega arith)))

  module _ (before one after : List ℕ) (w₁ : WindowsIn lacks round ticks 16 before one) (w₂ : WindowsIn lacks round ticks 64 one after) where
    Stands : ℕ → Type 0
    Stands step = (k : ℕ) → k * step < ticks → LeastOver lacks (step * k) (5 * step) (get_or after (place_of round step k) 0)

    stands : (step : ℕ) → IsStep step → Stands step
    unfolding Stands
    stands = by-step Stands (λ k h. rw (w₂.others (place_of round 16 k) (inr (omega arith))) (w₁.each k h)) w₂.each

    -- a window is no more than what is lacking at any time for as long as four steps
    Under : ℕ → Type 0
    Under step = (r d : ℕ) → r < ticks → d < 4 * step → (r + d < count) × (get_or after (place_of round step (r / step)) 0 ≤ get_or lacks (r + d) 0)

    under-at : (step : ℕ) → IsStep step → step ≤ 64 → ((r d : ℕ) → d < 4 * step → (step * (r / step) ≤ r + d) × (r + d < step * (r / step) + 5 * step)) → Under step
    unfolding Stands Under
    under-at step is most within r d h g =
        let w = within r d g in
        let q : r / step * step < ticks = omega (arith, div-mul-le_self r step) in
        (omega arith, stands step is (r / step) q (r + d) w.0 w.1)

    under : (step : ℕ) → IsStep step → Under step
    under = by-step Under
        (under-at 16 (inl refl) (omega arith) (λ r d h. (omega arith, omega arith)))
        (under-at 64 (inr refl) (omega arith) (λ r d h. (omega arith, omega arith)))

    step-least : (step : ℕ) → IsStep step → 1 ≤ step
    step-least = by-step (λ step. 1 ≤ step) (omega arith) (omega arith)

    pub tabled : (low : ℕ) → LeastOver lacks 0 ticks low → Tabled t n classes round ticks low before after
    unfolding Under
    tabled low least = record {
      long = w₂.long;
      windowed = record {
        some = some;
        short = short;
        most = λ step s is.
            let u = under step is (s % ticks) 0 (mod-lt s some) (omega (arith, step-least step is)) in
            omega (arith, u.1, l.lacking.most (s % ticks + 0) u.0);
        asked = λ step s d is g.
            let u = under step is (s % ticks) d (mod-lt s some) g in
            lacking-asked s d _ u.0 u.1;
      };
      low-most = low-bound low least;
      low-asked = low-is-asked low least;
      others = λ i h. w₂.others i (inl (omega arith)) ∙ w₁.others i (inl (omega arith));
    }

-- a window of a round stands among the round's places
pub place-within : (round ticks : ℕ) → 1 ≤ ticks → ticks ≤ 16384 → (step : ℕ) → IsStep step → (s : ℕ)
    → place_of round step (s % ticks / step) < 2048 * (round + 1)
place-within round ticks some short = by-step (λ step. (s : ℕ) → place_of round step (s % ticks / step) < 2048 * (round + 1))
    (λ s. omega (arith, mod-lt s some, short))
    (λ s. omega (arith, mod-lt s some, short))

-- the windows of a round stand where only those of later rounds are made
pub windowed-stands : {t : ℕ → Term} {n : ℕ} {classes : List ℕ} {round ticks : ℕ} {before after : List ℕ} → ((i : ℕ) → i < 2048 * (round + 1) → get_or after i 0 ≡ get_or before i 0)
    → Windowed t n classes round ticks before → Windowed t n classes round ticks after
windowed-stands {round = round} {ticks = ticks} same w = record {
  some = w.some;
  short = w.short;
  most = λ step s is. rw (same (place_of round step (s % ticks / step)) (within step is s)) (w.most step s is);
  asked = λ step s d is g. rw (same (place_of round step (s % ticks / step)) (within step is s)) (w.asked step s d is g);
}
  where
    within : (step : ℕ) → IsStep step → (s : ℕ) → place_of round step (s % ticks / step) < 2048 * (round + 1)
    within = place-within round ticks w.some w.short
