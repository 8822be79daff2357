-- Every window ends, for all counts that cover what may be lost, and each job with it.
use Prim.Native.Nat.{ℕ, zero, suc, ◌+◌, ◌-◌, ◌*◌, min, ◌≤◌, ◌<◌}
use native.Mathlib.Nat.{lt_of_not-le, le_trans, le_of_eq, mul-le-mul_left}
use native.Mathlib.Decide.{dec_le}
use native.Mathlib.Omega.{arith}
use mathlib.Core.Path.{◌≡◌, refl, ap, sym, subst, ◌∙◌}
use mathlib.Core.Bool.{Bool, true, false, ◌&&◌, ◌||◌}
use mathlib.Core.Logic.{◌⊎◌, inl, inr}
use lib.Dec.{leb}
use borrow.Author.Tests.{le-leb, lt-leb}
use Rattle.std.proofs.lemmas.Bool.{and_from, and_parts, both_ways, or_cases}
use Rattle.search.specs.Demand.{demand_of}
use Rattle.runs.specs.Sums.{sum, one, count_from}
use Rattle.runs.specs.model.Jobs.{Task, Slot, job, Run, given, served, Complete, Constrained}
use Rattle.runs.specs.model.Accesses.{Access}
use Rattle.runs.specs.model.Cache.{own, own_since, reloads, finds_first}
use Rattle.runs.specs.Equation.{CanBlock}
use Rattle.runs.proofs.SumLaws.{sum-le, sum-add, sum_same, sum-empty, sum-none, find}
use Rattle.runs.proofs.JobLaws.{given_is, given-self, served-mono}
use Rattle.runs.proofs.QuietLaws.{Hungry, Quiet}
use Rattle.runs.proofs.OvertakingLaws.{same-task}
use Rattle.runs.proofs.ChargeLaws.{one-and, and_none}
use Rattle.runs.proofs.BlockingLaws.{Rules, Blocker, Calm, Stirred, last-calm, runner, holder}
use Rattle.runs.proofs.LostLaws.{Lost, Finds, reload-since, few_on}
use Rattle.runs.proofs.VictimLaws.{any_of, Allowed, Victim, Few, Pays, pays3, pays4}
use Rattle.runs.proofs.ReloadLaws.{Flat, rel, OfTask, mine, task-victim, task-few, few-tasks}
use Rattle.runs.proofs.WindowLaws.{demand-sum, terms_of, ended}
use Rattle.std.proofs.lemmas.Grind.{common_steps}

-- ---- small facts

one-or : (b d : Bool) → (b ≡ true → d ≡ true → ⊥) → one b + one d ≤ one (b || d)
one-or true true p = absurd (p refl refl)
one-or true false p = omega arith
one-or false d p = omega arith

-- the count of the task at k, which is not below i, or else is the blocker
abbrev count_of : (ℕ → ℕ → ℕ) → ℕ → (ℕ → ℕ) → ℕ → ℕ → ℕ
count_of U i Q k c = elim (leb k i) [ true ↦ U k c | false ↦ Q c ]

-- R covers the demand with these counts, without an access and with each
pub record Covered (tasks : ℕ → Task) (brt : ℕ) (accesses : ℕ → Access) (many i : ℕ) (bare : ℕ → ℕ) (with : ℕ → ℕ → ℕ) (R : ℕ) : Type 0 where
  pub each : (q : ℕ) → q < many → CanBlock (accesses q) i
      → (r : ℕ) × (r ≤ R) × (demand_of ((tasks i).cost + (accesses q).length) (terms_of tasks (λ j. brt * with q j)) i r ≤ r)
  pub none : ((q : ℕ) → q < many → CanBlock (accesses q) i → ⊥) → demand_of (tasks i).cost (terms_of tasks (λ j. brt * bare j)) i R ≤ R

module _ (tasks : ℕ → Task) (size sets brt W : ℕ) (U : ℕ → ℕ → ℕ) (E : ℕ → ℕ → Bool) (accesses : ℕ → Access) (Y : ℕ → ℕ → ℕ) (many : ℕ) (z : Run)
    (rules : Rules tasks size accesses many z) (flat : Flat tasks size sets brt W U E z)
    (lasts : (u d k m : ℕ) → z.takes u ≡ true → z.has u ≡ job k m → z.on u (u + d) ≡ true
    → count_from (λ t. given k m (z.has t)) u d
    < (accesses (z.which u)).length + brt * sum (λ s. sum (λ c. one (reloads W z (own_since z u k m c) k m c (u + s))) sets) d)
    (useful_in : (u k m c T d : ℕ) → z.takes u ≡ true → z.has u ≡ job k m → c < sets
    → sum (λ s. one (z.on u (u + s) && finds_first W z (own_since z u k m c) k m T c (u + s))) d ≤ Y (z.which u) c)
    (sane : (j : ℕ) → j < size → Constrained (tasks j)) (i : ℕ) (there : i < size) where
  abbrev h : Run
  h = z

  abbrev has : ℕ → Slot
  has = z.has

  abbrev CalmAt : ℕ → Type 0
  CalmAt t = Calm tasks size accesses many z rules sane i there t

  abbrev StirredAt : ℕ → Type 0
  StirredAt t = Stirred tasks size accesses many z rules sane i there t

  abbrev PaysFor : (bar : ℕ) → (ℕ → ℕ) → bar ≤ i → (ℕ → ℕ) → Type 1
  PaysFor bar Q high g = Pays tasks size sets W E z flat.scheduled flat.evicts sane i bar (count_of U i Q) high g

  abbrev Tasks : ℕ → ℕ → ℕ → ℕ → ℕ → Type 0
  Tasks k m c from t = OfTask tasks size sets brt W U E z flat sane i there k m c from t

  counts-task : (Q : ℕ → ℕ) (k c : ℕ) → k ≤ i → count_of U i Q k c ≡ U k c
  counts-task Q k c l = let q = le-leb k i l in rw (q, count_of) refl

  counts-other : (Q : ℕ → ℕ) (k c : ℕ) → i < k → count_of U i Q k c ≡ Q c
  counts-other Q k c l = let q = lt-leb k i l in rw (q, count_of) refl

  -- ---- one window

  module _ (a x : ℕ) (calm : CalmAt a) (busy : (s : ℕ) → s < x → StirredAt (suc (a + s))) where
    abbrev ours : ℕ → ℕ → Bool
    ours s c = mine tasks size sets brt W U E z flat sane i there a x s c

    quiet : Quiet h i a
    quiet j n l = calm.0 j n (omega arith)

    late : StirredAt (a + x) → Hungry h (suc i) (a + x) ⊎ ((k : ℕ) × (m : ℕ) × Blocker accesses z i a k m × (z.on a (a + x) ≡ true))
    late (inl w) = inl w
    late (inr (u, held, may)) = inr (holder tasks size accesses many z rules sane i there a x calm busy u held may)

    -- ---- without a blocker

    free : (once bar : ℕ) (Q : ℕ → ℕ) (high : bar ≤ i) (g : ℕ → ℕ) → PaysFor bar Q high g → ((k m : ℕ) → Blocker accesses z i a k m → ⊥)
        → demand_of ((tasks i).cost + once) (terms_of tasks (λ j. brt * g j)) i x ≤ x → x + (tasks i).jitter ≤ (tasks i).deadline → StirredAt (a + x) → ⊥
    free once bar Q high g pays nobody covers fits stirred =
        ended tasks size sets brt (rel tasks size sets brt W U E z flat sane i there) z flat.scheduled flat.waits_only sane i there a x calm.0 once (λ s. false) (λ s c. false) g
        (λ s l. goes s (runner tasks size accesses many z rules sane i there a x calm busy s l))
        (let e = sum-none x in omega arith)
        (let e : sum (λ s. sum (λ c. one false) sets) x ≡ 0 = sum-empty _ x (λ s l. sum-none sets) in
        omega (
          arith,
          pays a x quiet Tasks (few-tasks tasks size sets brt W U E z flat sane i there a x (count_of U i Q) (counts-task Q)) ours
              (λ s c l e. drop (task-victim tasks size sets brt W U E z flat sane i there a x bar Tasks (λ k m c from t y. y) s c e)),
        ))
        covers fits (left (late stirred))
      where
        goes : (s : ℕ) → (k : ℕ) × (m : ℕ) × (has (a + s) ≡ job k m) × ((k ≤ i) ⊎ (Blocker accesses z i a k m × (z.on a (a + s) ≡ true)))
            → ((k : ℕ) × (m : ℕ) × (has (a + s) ≡ job k m) × (k ≤ i)) ⊎ (false ≡ true)
        goes s (k, m, e, inl l) = inl (k, m, e, l)
        goes s (k, m, e, inr w) = absurd (nobody k m w.0)

        drop : {s c : ℕ} → (k : ℕ) × (m : ℕ) × (k ≤ i) × Victim z Tasks i bar a k m s c → (k : ℕ) × (m : ℕ) × Victim z Tasks i bar a k m s c
        drop (k, m, l, w) = (k, m, w)

        left : Hungry h (suc i) (a + x) ⊎ ((k : ℕ) × (m : ℕ) × Blocker accesses z i a k m × (z.on a (a + x) ≡ true))
            → Hungry h (suc i) (a + x) ⊎ (sum (λ s. one false) x < once + brt * sum (λ s. sum (λ c. one false) sets) x)
        left (inl w) = inl w
        left (inr (k, m, w, l)) = absurd (nobody k m w)

    -- ---- with a blocker

    module _ (k m : ℕ) (blocker : Blocker accesses z i a k m) where
      abbrev x₀ : Access
      x₀ = accesses (z.which a)

      abbrev V₀ : ℕ → ℕ
      V₀ c = Y (z.which a) c

      below : i < k
      below = let w = rules.held.whose a blocker.taken in omega (arith, blocker.may.0, same-task (sym w.2 ∙ blocker.mine))

      block_at : ℕ → Bool
      block_at s = given k m (has (a + s)) && z.on a (a + s)

      its : ℕ → ℕ → Bool
      its s c = z.on a (a + s) && reloads W z (own_since z a k m c) k m c (a + s)

      its-has : (s c : ℕ) → its s c ≡ true → has (a + s) ≡ job k m
      unfolding its
      its-has s c e =
          let p = and_parts (z.on a (a + s)) (reloads W z (own_since z a k m c) k m c (a + s)) e in
          given_is k m (has (a + s)) (and_parts (given k m (has (a + s))) _ p.1).0

      -- the blocks of the tasks, and those of the access
      abbrev All : ℕ → ℕ → ℕ → ℕ → ℕ → Type 0
      All k₁ m₁ c from t =
          Tasks k₁ m₁ c from t ⊎ ((job k₁ m₁ ≡ job k m) × (z.on a t ≡ true) × Finds W z (own_since z a k₁ m₁ c) c from t)

      few : Few z All sets W (count_of U i V₀) a x
      few k₁ m₁ c T d ch facts = which (dec_le k₁ i)
        where
          which : Dec (k₁ ≤ i) → sum (λ s. one (ch s)) x ≤ min W (count_of U i V₀ k₁ c)
          which (yes l) =
              let q = counts-task V₀ k₁ c l in
              rw q (task-few tasks size sets brt W U E z flat sane i there a x k₁ m₁ c T l d ch (λ s b e.
              let f = facts s b e in (f.0, f.1, (f.2.0, f.2.1, plainly s f.2.0 f.2.2))))
            where
              plainly : (s from : ℕ) → All k₁ m₁ c from (a + s) → Finds W z (own z k₁ m₁ c) c from (a + s)
              plainly s from (inl y) = y.1
              plainly s from (inr y) = absurd (omega (arith, below, same-task y.0))
          which (no l) = some (any_of ch x)
            where
              theirs : (s from : ℕ) → All k₁ m₁ c from (a + s)
                  → (job k₁ m₁ ≡ job k m) × (z.on a (a + s) ≡ true) × Finds W z (own_since z a k₁ m₁ c) c from (a + s)
              theirs s from (inl y) = absurd (l y.0)
              theirs s from (inr y) = y

              some : ((s : ℕ) → s < x → ch s ≡ false) ⊎ ((s : ℕ) × (s < x) × (ch s ≡ true)) → sum (λ s. one (ch s)) x ≤ min W (count_of U i V₀ k₁ c)
              some (inl none) = let w : sum (λ s. one (ch s)) x ≡ 0 = sum-empty _ x (λ s b. ap one (none s b)) in omega arith
              some (inr (s₀, b₀, e₀)) =
                  let f₀ = facts s₀ b₀ e₀ in
                  let same = (theirs s₀ f₀.2.0 f₀.2.2).0 in
                  let q = counts-other V₀ k₁ c (lt_of_not-le l) in
                  rw q (few_on W z k₁ m₁ c T a x (V₀ c) (own_since z a k₁ m₁ c) (λ s. z.on a (a + s))
                  (λ t b. let r = le-leb a t b in rw r refl)
                  (useful_in a k₁ m₁ c T x blocker.taken (blocker.mine ∙ sym same) d)
                  ch (λ s b e.
                  let f = facts s b e in
                  let y = theirs s f.2.0 f.2.2 in
                  (y.1, f.0, f.1, (f.2.0, f.2.1, y.2))))

      -- its reloads are those of a victim of tasks above the ceiling
      its-victim : (s c : ℕ) → its s c ≡ true → Victim z All i x₀.ceiling a k m s c
      unfolding its
      its-victim s c e =
          let p = and_parts (z.on a (a + s)) (reloads W z (own_since z a k m c) k m c (a + s)) e in
          build p.0 (reload-since W z a k m (a + s) c p.1)
        where
          build : z.on a (a + s) ≡ true
              → (has (a + s) ≡ job k m) × ((w : Lost z c (a + s) k m) × (a ≤ w.from) × Finds W z (own_since z a k m c) c w.from (a + s))
              → Victim z All i x₀.ceiling a k m s c
          build l (f, (w, begun, y)) = record {
            now = f;
            took = w;
            found = inr (refl, l, y);
            begun = begun;
            others = λ y p q c d g n. other y p q c d g n
                (rules.scheduled.above_only a y k m p q (record { taken = blocker.taken; since = omega (arith, begun); still = rules.held.whole a y (a + s) blocker.taken (omega (arith, begun)) (omega arith) l }) blocker.mine g);
          }
            where
              other : (y p q : ℕ) → w.from < y → y < a + s → has y ≡ job p q → given k m (has y) ≡ false
                  → (p < x₀.ceiling) ⊎ (job p q ≡ job k m) → Allowed i x₀.ceiling p k
              other y p q c d g n (inl r) = (omega (arith, blocker.may.1, below), inr r)
              other y p q c d g n (inr r) = absurd (both_ways (given k m (has y)) n (given-self k m (has y) (g ∙ r)))

      -- the ticks that it has
      strict : (d : ℕ) → z.on a (a + d) ≡ true → sum (λ s. one (block_at s)) d < x₀.length + brt * sum (λ s. sum (λ c. one (its s c)) sets) d
      unfolding block_at its
      strict d l =
          let e : sum (λ s. sum (λ c. one (its s c)) sets) d ≡ sum (λ s. sum (λ c. one (reloads W z (own_since z a k m c) k m c (a + s))) sets) d =
          sum_same _ _ d (λ s b. sum_same _ _ sets (λ c r. let q = rules.held.whole a (a + s) (a + d) blocker.taken (omega arith) (omega arith) l in rw q refl)) in
          rw e (omega (
            arith,
            lasts a d k m blocker.taken blocker.mine l,
            sum-le (λ s. one (given k m (has (a + s)) && z.on a (a + s))) (λ s. one (given k m (has (a + s)))) d (λ s b. one-and (given k m (has (a + s))) (z.on a (a + s))),
          ))

      block_none : (d : ℕ) → z.on a (a + d) ≡ false → block_at d ≡ false
      unfolding block_at
      block_none d l = and_none (given k m (has (a + d))) (z.on a (a + d)) l

      block-is : (s : ℕ) → has (a + s) ≡ job k m → z.on a (a + s) ≡ true → block_at s ≡ true
      unfolding block_at
      block-is s e l = and_from _ _ (given-self k m (has (a + s)) e) l

      most-ticks : (d : ℕ) → sum (λ s. one (block_at s)) d ≤ x₀.length + brt * sum (λ s. sum (λ c. one (its s c)) sets) d
      unfolding sum
      most-ticks zero = omega arith
      most-ticks (suc d) = go (z.on a (a + d)) refl (most-ticks d)
        where
          more : brt * sum (λ s. sum (λ c. one (its s c)) sets) d ≤ brt * (sum (λ s. sum (λ c. one (its s c)) sets) d + sum (λ c. one (its d c)) sets)
          more = mul-le-mul_left brt (omega arith)

          upto : (b : Bool) → one b ≤ 1
          upto true = omega arith
          upto false = omega arith

          go : (b : Bool) → z.on a (a + d) ≡ b → sum (λ s. one (block_at s)) d ≤ x₀.length + brt * sum (λ s. sum (λ c. one (its s c)) sets) d
              → sum (λ s. one (block_at s)) d + one (block_at d) ≤ x₀.length + brt * (sum (λ s. sum (λ c. one (its s c)) sets) d + sum (λ c. one (its d c)) sets)
          go true l rest = omega (arith, strict d l, upto (block_at d), more)
          go false l rest = let e : one (block_at d) ≡ 0 = ap one (block_none d l) in omega (arith, more)

      blocked : (high : x₀.ceiling ≤ i) (g : ℕ → ℕ) → PaysFor x₀.ceiling V₀ high g
          → demand_of ((tasks i).cost + x₀.length) (terms_of tasks (λ j. brt * g j)) i x ≤ x → x + (tasks i).jitter ≤ (tasks i).deadline → StirredAt (a + x) → ⊥
      blocked high g pays covers fits stirred =
          ended tasks size sets brt (rel tasks size sets brt W U E z flat sane i there) z flat.scheduled flat.waits_only sane i there a x calm.0 x₀.length block_at its g
          (λ s l. goes s (runner tasks size accesses many z rules sane i there a x calm busy s l))
          (most-ticks x)
          (le_trans (le_of_eq (sym (sum-add (λ s. sum (λ c. one (ours s c)) sets) (λ s. sum (λ c. one (its s c)) sets) x)))
          (le_trans (sum-le _ (λ s. sum (λ c. one (ours s c || its s c)) sets) x (λ s l.
          le_trans (le_of_eq (sym (sum-add (λ c. one (ours s c)) (λ c. one (its s c)) sets)))
          (sum-le _ _ sets (λ c b. one-or (ours s c) (its s c) (apart s c)))))
          (pays a x quiet All few (λ s c. ours s c || its s c) (λ s c l e. victim (or_cases (ours s c) (its s c) e)))))
          covers fits (left (late stirred))
        where
          goes : (s : ℕ) → (k : ℕ) × (m : ℕ) × (has (a + s) ≡ job k m) × ((k ≤ i) ⊎ (Blocker accesses z i a k m × (z.on a (a + s) ≡ true)))
              → ((k : ℕ) × (m : ℕ) × (has (a + s) ≡ job k m) × (k ≤ i)) ⊎ (block_at s ≡ true)
          goes s (k₂, m₂, e, inl l) = inl (k₂, m₂, e, l)
          goes s (k₂, m₂, e, inr w) = inr (block-is s (e ∙ sym w.0.mine ∙ blocker.mine) w.1)

          of-task : (s c : ℕ) → ours s c ≡ true → (k₁ : ℕ) × (m₁ : ℕ) × (k₁ ≤ i) × Victim z All i x₀.ceiling a k₁ m₁ s c
          of-task s c e = task-victim tasks size sets brt W U E z flat sane i there a x x₀.ceiling All (λ k m c from t y. inl y) s c e

          apart : (s c : ℕ) → ours s c ≡ true → its s c ≡ true → ⊥
          apart s c e f = let w = of-task s c e in omega (arith, w.2, below, same-task (sym w.3.now ∙ its-has s c f))

          victim : {s c : ℕ} → (ours s c ≡ true) ⊎ (its s c ≡ true) → (k₁ : ℕ) × (m₁ : ℕ) × Victim z All i x₀.ceiling a k₁ m₁ s c
          victim {s} {c} (inl e) = let w = of-task s c e in (w.0, w.1, w.3)
          victim {s} {c} (inr e) = (k, m, its-victim s c e)

          left : Hungry h (suc i) (a + x) ⊎ ((k : ℕ) × (m : ℕ) × Blocker accesses z i a k m × (z.on a (a + x) ≡ true))
              → Hungry h (suc i) (a + x) ⊎ (sum (λ s. one (block_at s)) x < x₀.length + brt * sum (λ s. sum (λ c. one (its s c)) sets) x)
          left (inl w) = inl w
          left (inr (k₂, m₂, w, l)) = inr (strict x l)

  -- ---- every job

  module _ (R : ℕ) (fits : R + (tasks i).jitter ≤ (tasks i).deadline) where
    -- a window that cannot last for r ticks is over by then, and the job with it
    closes : (n a : ℕ) → a ≤ z.released i n → ((s : ℕ) → a ≤ s → s < z.released i n → StirredAt (suc s)) → (r : ℕ) → r ≤ R → (tasks i).cost ≤ r
        → (((s : ℕ) → s < r → StirredAt (suc (a + s))) → StirredAt (a + r) → ⊥) → Complete h i n (z.released i n + R)
    closes n a from stirred r small enough short = go (dec_le (z.needs i n) (served h i n (a + r)))
      where
        overrun : served h i n (a + r) < z.needs i n → Dec (a + r ≤ z.released i n) → ⊥
        overrun late (yes l) =
            let e : suc (a + (r - 1)) ≡ a + r = omega (arith, rules.jobs.no_more i n there) in
            short (λ s b. stirred (a + s) (omega arith) (omega arith))
            (subst StirredAt e (stirred (a + (r - 1)) (omega arith) (omega (arith, rules.jobs.no_more i n there))))
        overrun late (no l) = short (λ s b. at s b (dec_le (suc (a + s)) (z.released i n))) (inl (i, n, omega arith, lt_of_not-le l, late))
          where
            at : (s : ℕ) → s < r → Dec (a + s < z.released i n) → StirredAt (suc (a + s))
            at s b (yes d) = stirred (a + s) (omega arith) d
            at s b (no d) = inl (i, n, omega arith, lt_of_not-le d, omega (arith, served-mono h i n (suc (a + s)) (a + r) (omega arith)))

        go : Dec (z.needs i n ≤ served h i n (a + r)) → Complete h i n (z.released i n + R)
        go (yes p) = omega (arith, p, served-mono h i n (a + r) (z.released i n + R) (omega arith))
        go (no p) = absurd (overrun (lt_of_not-le p) (dec_le (a + r) (z.released i n)))

    module _ (bare : ℕ → ℕ) (with : ℕ → ℕ → ℕ) (nothing : PaysFor 0 (λ c. 0) (omega arith) bare)
        (something : (q : ℕ) (high : (accesses q).ceiling ≤ i) → PaysFor (accesses q).ceiling (Y q) high (with q))
        (answers : Covered tasks brt accesses many i bare with R) where
      own-least : (own : ℕ) (g : ℕ → ℕ) (r : ℕ) → demand_of own (terms_of tasks (λ j. brt * g j)) i r ≤ r → own ≤ r
      own-least own g r l = omega (arith, demand-sum own (terms_of tasks (λ j. brt * g j)) r i)

      may : (x : Access) → CanBlock x i ⊎ (CanBlock x i → ⊥)
      may x = grind (arith, common_steps)

      job-ends : (n : ℕ) → Complete h i n (z.released i n + R)
      job-ends n = from (last-calm tasks size accesses many z rules sane i there (z.released i n))
        where
          module-free : (a : ℕ) → a ≤ z.released i n → CalmAt a → ((s : ℕ) → a ≤ s → s < z.released i n → StirredAt (suc s))
              → ((k m : ℕ) → Blocker accesses z i a k m → ⊥) → Complete h i n (z.released i n + R)
          module-free a l calm stirred nobody = pick (find (λ q. CanBlock (accesses q) i → ⊥) (λ q. CanBlock (accesses q) i) (λ q. swap (may (accesses q))) many)
            where
              swap : {A B : Type 0} → A ⊎ B → B ⊎ A
              swap (inl y) = inr y
              swap (inr y) = inl y

              pick : ((q : ℕ) → q < many → CanBlock (accesses q) i → ⊥) ⊎ ((q : ℕ) × (q < many) × CanBlock (accesses q) i) → Complete h i n (z.released i n + R)
              pick (inl none) =
                  let c = answers.none none in
                  closes n a l stirred R (omega arith) (own-least (tasks i).cost bare R c)
                  (λ busy st. free a R calm busy 0 0 (λ c. 0) (omega arith) bare nothing nobody
                  (let e : (tasks i).cost + 0 ≡ (tasks i).cost = omega arith in rw e c) fits st)
              pick (inr (q, b, y)) =
                  let w = answers.each q b y in
                  closes n a l stirred w.0 w.1 (omega (arith, own-least ((tasks i).cost + (accesses q).length) (with q) w.0 w.2))
                  (λ busy st. free a w.0 calm busy (accesses q).length (accesses q).ceiling (Y q) y.1 (with q)
                  (something q y.1) nobody w.2 (omega (arith, fits, w.1)) st)

          by-blocker : (a : ℕ) → a ≤ z.released i n → CalmAt a → ((s : ℕ) → a ≤ s → s < z.released i n → StirredAt (suc s))
              → (k m : ℕ) → Blocker accesses z i a k m → Complete h i n (z.released i n + R)
          by-blocker a l calm stirred k m bl =
              let y = bl.may in
              let w = answers.each (z.which a) (rules.held.whose a bl.taken).0 y in
              closes n a l stirred w.0 w.1 (omega (arith, own-least ((tasks i).cost + (accesses (z.which a)).length) (with (z.which a)) w.0 w.2))
              (λ busy st. blocked a w.0 calm busy k m bl y.1 (with (z.which a)) (something (z.which a) y.1) w.2 (omega (arith, fits, w.1)) st)

          from : (a : ℕ) × (a ≤ z.released i n) × CalmAt a × ((s : ℕ) → a ≤ s → s < z.released i n → StirredAt (suc s)) → Complete h i n (z.released i n + R)
          from (a, l, calm, stirred) = at (z.takes a) refl (may (accesses (z.which a)))
            where
              at : (b : Bool) → z.takes a ≡ b → CanBlock (accesses (z.which a)) i ⊎ (CanBlock (accesses (z.which a)) i → ⊥) → Complete h i n (z.released i n + R)
              at false e y = module-free a l calm stirred (λ k m bl. both_ways (z.takes a) e bl.taken)
              at true e (inr y) = module-free a l calm stirred (λ k m bl. y bl.may)
              at true e (inl y) =
                  let o = rules.held.whose a e in
                  by-blocker a l calm stirred (accesses (z.which a)).task o.1 (record { taken = e; mine = o.2; may = y })

  -- ---- THE THEOREMS: every job of every legal run is complete R ticks after its release, where R answers the equation of the method

  abbrev Ends : (ℕ → ℕ) → (ℕ → ℕ → ℕ) → Type 0
  Ends bare with = (R : ℕ) → Covered tasks brt accesses many i bare with R → R + (tasks i).jitter ≤ (tasks i).deadline
      → (n : ℕ) → Complete z i n (z.released i n + R)

  -- what holds for the tasks that are not below i, and for the blocker, holds for all that p may pre-empt
  by_level : (bar : ℕ) (Q : ℕ → ℕ) (P : (ℕ → ℕ) → Type 0) (p k : ℕ) → (k ≤ i → P (U k)) → (p < bar → P Q) → Allowed i bar p k
      → ((f g : ℕ → ℕ) → ((c : ℕ) → f c ≡ g c) → P g → P f) → P (count_of U i Q k)
  by_level bar Q P p k one two (d, w) same = at (dec_le k i) w
    where
      at : Dec (k ≤ i) → (k ≤ i) ⊎ (p < bar) → P (count_of U i Q k)
      at (yes l) w = same (count_of U i Q k) (U k) (λ c. counts-task Q k c l) (one l)
      at (no l) (inl r) = absurd (l r)
      at (no l) (inr r) = same (count_of U i Q k) Q (λ c. counts-other Q k c (lt_of_not-le l)) (two r)

  -- counts that are no less, in the cache sets that j uses, than what each that it may pre-empt finds_alone useful there
  pub ends-by3 : (bare : ℕ → ℕ) (with : ℕ → ℕ → ℕ) (M : ℕ → ℕ → ℕ) (Q : ℕ → ℕ → ℕ → ℕ) → ((p k c : ℕ) → p < k → k ≤ i → min W (U k c) ≤ M p c)
      → ((p : ℕ) → p < i → sum (λ c. one (E p c) * M p c) sets ≤ bare p)
      → ((q p k c : ℕ) → p < k → k ≤ i → min W (U k c) ≤ Q q p c) → ((q p c : ℕ) → p < (accesses q).ceiling → min W (Y q c) ≤ Q q p c)
      → ((q p : ℕ) → p < i → sum (λ c. one (E p c) * Q q p c) sets ≤ with q p) → Ends bare with
  ends-by3 bare with M Q covers most covers₂ bars most₂ R answers fits =
      job-ends R fits bare with
      (pays3 tasks size sets W E z flat.scheduled flat.evicts sane i 0 (count_of U i (λ c. 0)) (omega arith) bare M
      (λ p k c al. by_level 0 (λ c. 0) (λ f. min W (f c) ≤ M p c) p k (λ l. covers p k c al.0 l) (λ l. absurd (omega arith)) al (λ f g e r. let q = e c in rw q r)) most)
      (λ q high. pays3 tasks size sets W E z flat.scheduled flat.evicts sane i (accesses q).ceiling (count_of U i (Y q)) high (with q) (Q q)
      (λ p k c al. by_level (accesses q).ceiling (Y q) (λ f. min W (f c) ≤ Q q p c) p k (λ l. covers₂ q p k c al.0 l) (λ l. bars q p c l) al (λ f g e r. let q = e c in rw q r)) (most₂ q))
      answers

  -- counts that are no less than what each that j may pre-empt finds_alone useful where j or one above uses the cache set
  pub ends-by4 : (bare : ℕ → ℕ) (with : ℕ → ℕ → ℕ) (X : ℕ → ℕ → Bool) → ((p k c : ℕ) → k ≤ p → E k c ≡ true → X p c ≡ true)
      → ((p k : ℕ) → p < k → k ≤ i → sum (λ c. one (X p c) * U k c) sets ≤ bare p)
      → ((q p k : ℕ) → p < k → k ≤ i → sum (λ c. one (X p c) * U k c) sets ≤ with q p)
      → ((q p : ℕ) → p < (accesses q).ceiling → sum (λ c. one (X p c) * Y q c) sets ≤ with q p) → Ends bare with
  ends-by4 bare with X covers most most₂ bars R answers fits =
      job-ends R fits bare with
      (pays4 tasks size sets W E z flat.scheduled flat.evicts sane i 0 (count_of U i (λ c. 0)) (omega arith) bare X covers
      (λ p k al. by_level 0 (λ c. 0) (λ f. sum (λ c. one (X p c) * f c) sets ≤ bare p) p k (λ l. most p k al.0 l) (λ l. absurd (omega arith)) al (again p (bare p))))
      (λ q high. pays4 tasks size sets W E z flat.scheduled flat.evicts sane i (accesses q).ceiling (count_of U i (Y q)) high (with q) X covers
      (λ p k al. by_level (accesses q).ceiling (Y q) (λ f. sum (λ c. one (X p c) * f c) sets ≤ with q p) p k (λ l. most₂ q p k al.0 l) (λ l. bars q p l) al (again p (with q p))))
      answers
    where
      again : (p b : ℕ) (f g : ℕ → ℕ) → ((c : ℕ) → f c ≡ g c) → sum (λ c. one (X p c) * g c) sets ≤ b → sum (λ c. one (X p c) * f c) sets ≤ b
      again p b f g e l = le_trans (le_of_eq (sum_same _ _ sets (λ c r. ap (λ (y : ℕ). one (X p c) * y) (e c)))) l

  -- and so each ends by its deadline
  pub by-deadline : (R n : ℕ) → R + (tasks i).jitter ≤ (tasks i).deadline → Complete z i n (z.released i n + R)
      → Complete z i n (z.arrives i n + (tasks i).deadline)
  by-deadline R n fits p =
      omega (arith, p, served-mono h i n (z.released i n + R) (z.arrives i n + (tasks i).deadline) (omega (arith, rules.jobs.not_after i n there)))
