-- What the scheduler's rules say when jobs hold accesses: a job that has begun is never blocked, and in a busy window at most one access of a
-- task below runs, the one that was taken in the window's first tick.
use Prim.Native.Nat.{ℕ, zero, suc, ◌+◌, ◌-◌, ◌≤◌, ◌<◌}
use native.Mathlib.Nat.{eq-or-lt_of_le, lt_of_not-le}
use native.Mathlib.Decide.{dec_le}
use native.Mathlib.Omega.{arith}
use mathlib.Core.Path.{◌≡◌, ap, sym, subst, ◌∙◌}
use mathlib.Core.Bool.{true}
use mathlib.Core.Logic.{◌⊎◌, inl, inr}
use Rattle.runs.specs.model.Jobs.{Task, Slot, job, Run, Pending, Constrained, JobsKept}
use Rattle.runs.specs.model.Accesses.{Access, Holding, AccessesKept}
use Rattle.runs.specs.Equation.{CanBlock}
use Rattle.runs.specs.model.Schedule.{Scheduled}
use Rattle.runs.proofs.SumLaws.{find}
use Rattle.runs.proofs.JobLaws.{AtLeast, served-mono}
use Rattle.runs.proofs.QuietLaws.{Quiet, Hungry, decide, hungry-pending}
use Rattle.runs.proofs.OvertakingLaws.{Unblocked, same-task, kept}
use Rattle.std.proofs.lemmas.Grind.{common_steps}

-- the rules of the model, in one record
pub record Rules (tasks : ℕ → Task) (size : ℕ) (accesses : ℕ → Access) (many : ℕ) (z : Run) : Type 0 where
  pub jobs : JobsKept tasks size z
  pub held : AccessesKept accesses many z
  pub scheduled : Scheduled size accesses z

-- the last up to r that has P, where each has P or Q
pub last-that : (P Q : ℕ → Type 0) → ((t : ℕ) → P t ⊎ Q t) → P 0 → (r : ℕ) → (a : ℕ) × (a ≤ r) × P a × ((s : ℕ) → a ≤ s → s < r → Q (suc s))
last-that P Q test first zero = (0, omega arith, first, (λ s p q. absurd (omega arith)))
last-that P Q test first (suc r) = go (test (suc r)) (last-that P Q test first r)
  where
    last : Q (suc r) → (s : ℕ) → (s ≡ r) ⊎ (s < r) → (s < r → Q (suc s)) → Q (suc s)
    last w s (inl e) rest = rw e w
    last w s (inr l) rest = rest l

    go : P (suc r) ⊎ Q (suc r) → (a : ℕ) × (a ≤ r) × P a × ((s : ℕ) → a ≤ s → s < r → Q (suc s))
        → (a : ℕ) × (a ≤ suc r) × P a × ((s : ℕ) → a ≤ s → s < suc r → Q (suc s))
    go (inl q) w = (suc r, omega arith, q, (λ s p q. absurd (omega arith)))
    go (inr d) w = (w.0, omega (arith, w.1), w.2, (λ s p q. last d s (eq-or-lt_of_le (omega arith)) (w.3 s p)))

-- job m of k, below i, takes in tick a an access that may block i
pub record Blocker (accesses : ℕ → Access) (z : Run) (i a k m : ℕ) : Type 0 where
  pub taken : z.takes a ≡ true
  pub mine : z.has a ≡ job k m
  pub may : CanBlock (accesses (z.which a)) i

module _ (tasks : ℕ → Task) (size : ℕ) (accesses : ℕ → Access) (many : ℕ) (z : Run) (legal : Rules tasks size accesses many z) where
  abbrev h : Run
  h = z

  abbrev has : ℕ → Slot
  has = z.has

  -- ---- a job that has begun is never blocked

  -- no lower job has the processor by an access that it took before t, while j, which had the processor at s, is pending
  unblocked : (s t j n k m : ℕ) → has s ≡ job j n → Pending h j n t → j < k → (d u : ℕ) → u < d → Holding z u t → has u ≡ job k m
      → (accesses (z.which u)).ceiling ≤ j → s < t → ⊥
  unblocked s t j n k m e p b zero u q held f c l = omega arith
  unblocked s t j n k m e p b (suc d) u q held f c l = go (λ v. unblocked s t j n k m e p b d v) (dec_le (suc u) s) (dec_le u s)
    where
      Again : Type 0
      Again = (v : ℕ) → v < d → Holding z v t → has v ≡ job k m → (accesses (z.which v)).ceiling ≤ j → s < t → ⊥

      before : u < s → (j < (accesses (z.which u)).ceiling) ⊎ (job j n ≡ job k m) → ⊥
      before x (inl y) = omega arith
      before x (inr y) = omega (arith, same-task y)

      after : Again → s < u → (k₂ : ℕ) × (m₂ : ℕ) × (has u ≡ job k₂ m₂)
          × ((k₂ ≤ j) ⊎ ((v : ℕ) × Holding z v u × (has v ≡ job k₂ m₂) × ((accesses (z.which v)).ceiling ≤ j))) → ⊥
      after again x p = grind (arith, common_steps)

      go : Again → Dec (u < s) → Dec (u ≤ s) → ⊥
      go again (yes x) y = before x (legal.scheduled.above_only u s k m j n (record { taken = held.taken; since = x; still = legal.held.whole u s t held.taken (omega arith) (omega arith) held.still }) f e)
      go again (no x) (yes y) =
          let r : u ≡ s = omega (arith, lt_of_not-le x) in
          omega (arith, same-task (sym e ∙ ap has (sym r) ∙ f))
      go again (no x) (no y) =
          after again (lt_of_not-le y) (legal.scheduled.highest u j n (legal.scheduled.only_pending s j n e).0
          (omega (arith, (legal.scheduled.only_pending s j n e).1.0, lt_of_not-le y), omega (arith, p.1, served-mono h j n u t (omega (arith, held.since)))))

  begun : (s t j n : ℕ) → s < t → has s ≡ job j n → Pending h j n t → AtLeast j (has t)
  begun s t j n l e p = go (legal.scheduled.highest t j n (legal.scheduled.only_pending s j n e).0 p)
    where
      go : (k : ℕ) × (m : ℕ) × (has t ≡ job k m)
          × ((k ≤ j) ⊎ ((u : ℕ) × Holding z u t × (has u ≡ job k m) × ((accesses (z.which u)).ceiling ≤ j))) → AtLeast j (has t)
      go (k, m, f, w) = at w (dec_le k j)
        where
          at : (k ≤ j) ⊎ ((u : ℕ) × Holding z u t × (has u ≡ job k m) × ((accesses (z.which u)).ceiling ≤ j)) → Dec (k ≤ j) → AtLeast j (has t)
          at w (yes y) = rw f y
          at (inl y) (no x) = absurd (x y)
          at (inr (u, held, g, c)) (no x) = absurd (unblocked s t j n k m e p (lt_of_not-le x) (suc u) u (omega arith) held g c l)

  -- so the run is one of the model without accesses
  pub plain : Unblocked tasks size z
  plain = record {
    jobs = legal.jobs;
    only_pending = legal.scheduled.only_pending;
    once_begun = begun;
    in_order = legal.scheduled.in_order;
  }

  -- ---- calm ticks

  module _ (sane : (j : ℕ) → j < size → Constrained (tasks j)) (i : ℕ) (there : i < size) where
    -- all that i and the tasks above have released before t is complete, and no task below holds an access that may block i
    abbrev pub Calm : ℕ → Type 0
    Calm t = Quiet h (suc i) t × ((u : ℕ) → Holding z u t → CanBlock (accesses (z.which u)) i → ⊥)

    abbrev pub Stirred : ℕ → Type 0
    Stirred t = Hungry h (suc i) t ⊎ ((u : ℕ) × Holding z u t × CanBlock (accesses (z.which u)) i)

    calm-or : (t : ℕ) → Calm t ⊎ Stirred t
    calm-or t = go (decide tasks size h (kept tasks size z plain sane) (suc i) (omega arith) (λ j l. (sane j l).live) t) (find No Yes test t)
      where
        No : ℕ → Type 0
        No u = Holding z u t → CanBlock (accesses (z.which u)) i → ⊥

        Yes : ℕ → Type 0
        Yes u = Holding z u t × CanBlock (accesses (z.which u)) i

        test : (u : ℕ) → No u ⊎ Yes u
        test u = grind (arith, common_steps)

        go : Quiet h (suc i) t ⊎ Hungry h (suc i) t → ((u : ℕ) → u < t → No u) ⊎ ((u : ℕ) × (u < t) × Yes u) → Calm t ⊎ Stirred t
        go (inr a) w = inr (inl a)
        go (inl a) (inr w) = inr (inr (w.0, w.2.0, w.2.1))
        go (inl a) (inl w) = inl (a, (λ u k. w u k.since k))

    pub last-calm : (r : ℕ) → (a : ℕ) × (a ≤ r) × Calm a × ((s : ℕ) → a ≤ s → s < r → Stirred (suc s))
    last-calm = last-that Calm Stirred calm-or ((λ j n l p. absurd (omega arith)), (λ u k. absurd (omega (arith, k.since))))

    -- ---- who has the processor, from a calm tick on for as long as it is not calm again

    module _ (a x : ℕ) (calm : Calm a) (busy : (s : ℕ) → s < x → Stirred (suc (a + s))) where
      abbrev Blocks : ℕ → ℕ → Type 0
      Blocks k m = Blocker accesses z i a k m

      -- as long as the access taken in tick u is on, the one taken in tick a is
      abbrev Inside : ℕ → Type 0
      Inside u = (t : ℕ) → u < t → z.on u t ≡ true → z.on a t ≡ true

      lower : (u k m : ℕ) → z.takes u ≡ true → has u ≡ job k m → i < k → i < (accesses (z.which u)).task
      lower u k m e f l = let w = legal.held.whose u e in omega (arith, same-task (sym w.2 ∙ f))

      -- an access that may block i is not taken before a, if it is held from then on
      not_before : (u t k m : ℕ) → Holding z u t → a ≤ t → has u ≡ job k m → i < k → (accesses (z.which u)).ceiling ≤ i → a ≤ u
      not_before u t k m held l e b c = grind (arith, common_steps)

      -- and each that is taken later is taken inside the one that was taken in tick a
      root : (d u k m : ℕ) → u < a + d → a ≤ u → u < suc (a + x) → z.takes u ≡ true → has u ≡ job k m → i < k → (accesses (z.which u)).ceiling ≤ i
          → Blocks k m × Inside u
      root zero u k m q r l e f b c = absurd (omega arith)
      root (suc d) u k m q r l e f b c = at (λ v. root d v k m) (eq-or-lt_of_le r)
        where
          Again : Type 0
          Again = (v : ℕ) → v < a + d → a ≤ v → v < suc (a + x) → z.takes v ≡ true → has v ≡ job k m → i < k → (accesses (z.which v)).ceiling ≤ i
              → Blocks k m × Inside v

          down : Again → (v : ℕ) → Holding z v u → has v ≡ job k m → (accesses (z.which v)).ceiling ≤ i → Blocks k m × Inside u
          down again v hv g cv =
              let w = again v (omega (arith, hv.since)) (not_before v u k m hv r g b cv) (omega (arith, hv.since)) hv.taken g b cv in
              (w.0, (λ t q o. w.1 t (omega (arith, hv.since)) (legal.held.nested v u t k m hv (record { taken = e; since = q; still = o }) g f)))

          by-rule : Again → (j : ℕ) → j ≤ i → (k₂ : ℕ) × (m₂ : ℕ) × (has u ≡ job k₂ m₂)
              × ((k₂ ≤ j) ⊎ ((v : ℕ) × Holding z v u × (has v ≡ job k₂ m₂) × ((accesses (z.which v)).ceiling ≤ j))) → Blocks k m × Inside u
          by-rule again j l (k₂, m₂, g, w) = pick w
            where
              pick : (k₂ ≤ j) ⊎ ((v : ℕ) × Holding z v u × (has v ≡ job k₂ m₂) × ((accesses (z.which v)).ceiling ≤ j)) → Blocks k m × Inside u
              pick (inl y) = absurd (omega (arith, same-task (sym g ∙ f)))
              pick (inr (v, hv, gv, cv)) = down again v hv (gv ∙ sym g ∙ f) (omega arith)

          by-held : Again → (v k₂ m₂ : ℕ) → Holding z v u → has v ≡ job k₂ m₂ → (accesses (z.which v)).ceiling ≤ i
              → (k < (accesses (z.which v)).ceiling) ⊎ (job k m ≡ job k₂ m₂) → Blocks k m × Inside u
          by-held again v k₂ m₂ hv g cv (inl y) = absurd (omega arith)
          by-held again v k₂ m₂ hv g cv (inr y) = down again v hv (g ∙ sym y) cv

          later : Again → Stirred u → Blocks k m × Inside u
          later again (inl w) =
              by-rule again w.0 (omega (arith, w.2)) (legal.scheduled.highest u w.0 w.1 (omega (arith, w.2)) (omega (arith, w.3), w.4))
          later again (inr (v, hv, mv)) =
              let o = legal.held.whose v hv.taken in
              by-held again v (accesses (z.which v)).task o.1 hv o.2 mv.1
              (legal.scheduled.above_only v u (accesses (z.which v)).task o.1 k m hv o.2 f)

          at : Again → (a ≡ u) ⊎ (a < u) → Blocks k m × Inside u
          at again (inl y) =
              let t : z.takes a ≡ true = ap z.takes y ∙ e in
              let g : has a ≡ job k m = ap has y ∙ f in (
                record { taken = t; mine = g; may = (lower a k m t g b, subst (λ (v : ℕ). (accesses (z.which v)).ceiling ≤ i) (sym y) c) },
                (λ t q o. ap (λ (v : ℕ). z.on v t) y ∙ o),
              )
          at again (inr y) = later again (
              let v : suc (a + (u - suc a)) ≡ u = omega arith in
              subst Stirred v (busy (u - suc a) (omega arith)))

      -- IN EACH TICK a task that is not below i has the processor, or the one blocker, in its access
      pub runner : (s : ℕ) → s < x → (k : ℕ) × (m : ℕ) × (has (a + s) ≡ job k m) × ((k ≤ i) ⊎ (Blocks k m × (z.on a (a + s) ≡ true)))
      runner s l = go (busy s l)
        where
          Found : Type 0
          Found = (k : ℕ) × (m : ℕ) × (has (a + s) ≡ job k m) × ((k ≤ i) ⊎ (Blocks k m × (z.on a (a + s) ≡ true)))

          by-held : (u k m : ℕ) → Holding z u (a + s) → has u ≡ job k m → (accesses (z.which u)).ceiling ≤ i → has (a + s) ≡ job k m → Found
          by-held u k m hu g c e = at (dec_le k i)
            where
              at : Dec (k ≤ i) → Found
              at (yes y) = (k, m, e, inl y)
              at (no y) =
                  let b = lt_of_not-le y in
                  let w = root (suc s) u k m (omega (arith, hu.since)) (not_before u (a + s) k m hu (omega arith) g b c) (omega (arith, hu.since)) hu.taken g b c in
                  (k, m, e, inr (w.0, w.1 (a + s) hu.since hu.still))

          hungry : (j : ℕ) → j ≤ i → (k : ℕ) × (m : ℕ) × (has (a + s) ≡ job k m)
              × ((k ≤ j) ⊎ ((v : ℕ) × Holding z v (a + s) × (has v ≡ job k m) × ((accesses (z.which v)).ceiling ≤ j))) → Found
          hungry j l (k, m, e, w) = at w
            where
              at : (k ≤ j) ⊎ ((v : ℕ) × Holding z v (a + s) × (has v ≡ job k m) × ((accesses (z.which v)).ceiling ≤ j)) → Found
              at (inl y) = (k, m, e, inl (omega arith))
              at (inr (v, hv, g, c)) = by-held v k m hv g (omega arith) e

          held : (u k m : ℕ) → Holding z u (suc (a + s)) → has u ≡ job k m → i < k → (accesses (z.which u)).ceiling ≤ i → (u ≡ a + s) ⊎ (u < a + s) → Found
          held u k m hu g b c (inl y) =
              let w = root (suc s) u k m (omega arith) (omega arith) (omega arith) hu.taken g b c in
              (k, m, ap has (sym y) ∙ g, inr (w.0, legal.held.whole a (a + s) (suc (a + s)) w.0.taken (omega arith) (omega arith) (w.1 (suc (a + s)) hu.since hu.still)))
          held u k m hu g b c (inr y) = someone (legal.scheduled.highest (a + s) k m (legal.scheduled.only_pending u k m g).0 (legal.held.gives_back u (a + s) k m hv g))
            where
              hv : Holding z u (a + s)
              hv = record { taken = hu.taken; since = y; still = legal.held.whole u (a + s) (suc (a + s)) hu.taken (omega arith) (omega arith) hu.still }

              someone : (k₂ : ℕ) × (m₂ : ℕ) × (has (a + s) ≡ job k₂ m₂)
                  × ((k₂ ≤ k) ⊎ ((v : ℕ) × Holding z v (a + s) × (has v ≡ job k₂ m₂) × ((accesses (z.which v)).ceiling ≤ k))) → Found
              someone (k₂, m₂, e, w) = at (legal.scheduled.above_only u (a + s) k m k₂ m₂ hv g e)
                where
                  at : (k₂ < (accesses (z.which u)).ceiling) ⊎ (job k₂ m₂ ≡ job k m) → Found
                  at (inl q) = (k₂, m₂, e, inl (omega arith))
                  at (inr q) = by-held u k m hv g c (e ∙ q)

          go : Stirred (suc (a + s)) → Found
          go (inl w) =
              let p = hungry-pending h (suc i) (a + s) w in
              hungry p.0 (omega (arith, p.2)) (legal.scheduled.highest (a + s) p.0 p.1 (omega (arith, p.2)) p.3)
          go (inr (u, hu, mu)) =
              let o = legal.held.whose u hu.taken in
              held u (accesses (z.which u)).task o.1 hu o.2 mu.0 mu.1 (eq-or-lt_of_le (omega (arith, hu.since)))

      -- who holds an access that may block i at the end is the blocker
      pub holder : (u : ℕ) → Holding z u (a + x) → CanBlock (accesses (z.which u)) i → (k : ℕ) × (m : ℕ) × Blocks k m × (z.on a (a + x) ≡ true)
      holder u hu mu =
          let o = legal.held.whose u hu.taken in
          let w = root x u (accesses (z.which u)).task o.1 hu.since (not_before u (a + x) (accesses (z.which u)).task o.1 hu (omega arith) o.2 mu.0 mu.1)
          (omega (arith, hu.since)) hu.taken o.2 mu.0 mu.1 in
          ((accesses (z.which u)).task, o.1, w.0, w.1 (a + x) hu.since hu.still)
