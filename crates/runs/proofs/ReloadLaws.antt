-- The reloads of a run, as those of the victims of the tasks above.
use Prim.Native.Nat.{ℕ, suc, ◌+◌, ◌-◌, ◌*◌, min, ◌≤◌, ◌<◌}
use native.Mathlib.Decide.{dec_le}
use native.Mathlib.Omega.{arith}
use mathlib.Core.Path.{◌≡◌, refl, ap, sym, subst, ◌∙◌}
use mathlib.Core.Bool.{Bool, true, false, ◌&&◌, not}
use mathlib.Core.Logic.{inl}
use lib.Dec.{leb}
use borrow.Author.Tests.{leb-true}
use Rattle.std.proofs.lemmas.Bool.{and_parts, false≢true}
use Rattle.runs.specs.Sums.{sum, one}
use Rattle.runs.specs.model.Jobs.{Task, Slot, idle, job, Constrained, Run}
use Rattle.runs.specs.model.Cache.{own, present, finds_first, finds_alone, reloads, waits_of, reloads_of}
use Rattle.runs.specs.Equation.{largest}
use Rattle.runs.proofs.SumLaws.{sum-has, sum-empty, sum-split}
use Rattle.runs.proofs.OvertakingLaws.{Unblocked, same-task, between-other}
use Rattle.runs.proofs.LostLaws.{Lost, Finds, reload-ways, few_on}
use Rattle.runs.proofs.ChargeLaws.{reloads_above, mine_at}
use Rattle.runs.proofs.VictimLaws.{Victim, Few}
use Rattle.runs.proofs.SearchLaws.{largest-has}

-- k is one of the affected tasks
affected : (p k : ℕ) → p < k → suc (p + (k - suc p)) ≡ k
affected p k d = omega arith

pub has-largest : (f : ℕ → ℕ) (i p k : ℕ) → p < k → k ≤ i → f k ≤ largest (λ d. f (suc (p + d))) (i - p)
has-largest f i p k d l =
    subst (λ (y : ℕ). f y ≤ largest (λ d. f (suc (p + d))) (i - p)) (affected p k d)
    (largest-has (λ d. f (suc (p + d))) (i - p) (k - suc p) (omega arith))

pub has-sum : (f : ℕ → ℕ) (i p k : ℕ) → p < k → k ≤ i → f k ≤ sum (λ d. f (suc (p + d))) (i - p)
has-sum f i p k d l =
    subst (λ (y : ℕ). f y ≤ sum (λ d. f (suc (p + d))) (i - p)) (affected p k d)
    (sum-has (λ d. f (suc (p + d))) (i - p) (k - suc p) (omega arith))

-- a run as the argument sees it: jobs that wait for reloads only, and have few useful blocks
pub record Flat (tasks : ℕ → Task) (size sets brt W : ℕ) (U : ℕ → ℕ → ℕ) (E : ℕ → ℕ → Bool) (z : Run) : Type 0 where
  pub scheduled : Unblocked tasks size z
  pub evicts : (t j n c : ℕ) → z.has t ≡ job j n → z.uses t c ≡ true → E j c ≡ true
  pub waits_only : (j n t : ℕ) → j < size → waits_of z j n t ≤ brt * reloads_of W z sets j n t
  pub useful : (j n c T t : ℕ) → j < size → c < sets → sum (λ s. one (finds_first W z (own z j n c) j n T c s)) t ≤ U j c

module _ (tasks : ℕ → Task) (size sets brt W : ℕ) (U : ℕ → ℕ → ℕ) (E : ℕ → ℕ → Bool) (z : Run)
    (legal : Flat tasks size sets brt W U E z) (sane : (j : ℕ) → j < size → Constrained (tasks j)) (i : ℕ) (there : i < size) where
  abbrev sched : Unblocked tasks size z
  sched = legal.scheduled

  abbrev pub rel : ℕ → ℕ → ℕ → ℕ → Bool
  rel j n t c = finds_alone W z (own z j n c) c t && not (present W (λ s. z.uses s c) (λ s. z.block s c) t (z.block t c))

  -- the blocks of the tasks that are not below i
  abbrev pub OfTask : ℕ → ℕ → ℕ → ℕ → ℕ → Type 0
  OfTask k m c from t = (k ≤ i) × Finds W z (own z k m c) c from t

  module _ (a x : ℕ) where
    abbrev pub mine : ℕ → ℕ → Bool
    mine s c = mine_at tasks size sets brt rel z sched legal.waits_only i there a x s c

    -- a reload of such a task is one of a victim of the tasks above it
    pub task-victim : (bar : ℕ) (Of : ℕ → ℕ → ℕ → ℕ → ℕ → Type 0) → ((k m c from t : ℕ) → OfTask k m c from t → Of k m c from t)
        → (s c : ℕ) → mine s c ≡ true → (k : ℕ) × (m : ℕ) × (k ≤ i) × Victim z Of i bar a k m s c
    task-victim bar Of counts s c e = at (z.has (a + s)) refl e
      where
        build : (k m : ℕ) → k ≤ i → a ≤ z.released k m
            → (z.has (a + s) ≡ job k m) × ((w : Lost z c (a + s) k m) × (0 ≤ w.from) × Finds W z (own z k m c) c w.from (a + s))
            → Victim z Of i bar a k m s c
        build k m l r (f, (w, _, y)) = record {
          now = f;
          took = w;
          found = counts k m c w.from (a + s) (l, y);
          begun = omega (arith, (sched.only_pending w.from k m w.mine).1.0);
          others = λ v p q c d g o.
              let r = between-other tasks size z sched sane w.from v (a + s) k m w.mine f (omega arith) (omega arith) o in
              (omega (arith, r.3, same-task (sym r.2 ∙ g)), inl l);
        }

        at : (y : Slot) → z.has (a + s) ≡ y → reloads_above tasks size sets brt rel z sched legal.waits_only i there a x y s c ≡ true
            → (k : ℕ) × (m : ℕ) × (k ≤ i) × Victim z Of i bar a k m s c
        at idle f g = absurd (false≢true g)
        at (job k m) f g =
            let p = and_parts (leb k i) _ g in
            let q = and_parts (leb a (z.released k m)) (reloads W z (own z k m c) k m c (a + s)) p.1 in
            let l = leb-true k i p.0 in
            (k, m, l, build k m l (leb-true a (z.released k m) q.0) (reload-ways W z k m (a + s) c q.1))

    pub task-few : (k m c T : ℕ) → k ≤ i → c < sets → (ch : ℕ → Bool)
        → ((s : ℕ) → s < x → ch s ≡ true → (T ≤ a + s) × (z.has (a + s) ≡ job k m) × ((from : ℕ) × (from < T) × Finds W z (own z k m c) c from (a + s)))
        → sum (λ s. one (ch s)) x ≤ min W (U k c)
    task-few k m c T l d ch facts =
        few_on W z k m c T a x (U k c) (own z k m c) (λ s. true) (λ t b. refl)
        (omega (arith, sum-split (λ s. one (finds_first W z (own z k m c) k m T c s)) a x, legal.useful k m c T (a + x) (omega arith) d))
        ch (λ s b e. let f = facts s b e in (refl, f.0, f.1, f.2))

    -- where all that count are those of the tasks
    pub few-tasks : (N : ℕ → ℕ → ℕ) → ((k c : ℕ) → k ≤ i → N k c ≡ U k c) → Few z OfTask sets W N a x
    few-tasks N same k m c T d ch facts = all-or (dec_le k i)
      where
        all-or : Dec (k ≤ i) → sum (λ s. one (ch s)) x ≤ min W (N k c)
        all-or (yes l) =
            let q = same k c l in
            rw q (task-few k m c T l d ch (λ s b e. let f = facts s b e in (f.0, f.1, (f.2.0, f.2.1, f.2.2.1))))
        all-or (no l) =
            let w : sum (λ s. one (ch s)) x ≡ 0 = sum-empty _ x (λ s b. nothing s b (ch s) refl) in
            omega arith
          where
            nothing : (s : ℕ) → s < x → (y : Bool) → ch s ≡ y → one (ch s) ≡ 0
            nothing s b true e = absurd (l (facts s b e).2.2.0)
            nothing s b false e = ap one e
