-- Whom the reloads of a stretch of ticks are charged to, and how many ticks of waiting they are.
use Prim.Native.Nat.{ℕ, suc, ◌+◌, ◌*◌, ◌≤◌, ◌<◌}
use native.Mathlib.Nat.{lt_of_not-le, le_trans, le_of_eq, mul_comm, mul-le-mul_right}
use native.Mathlib.Decide.{dec_le}
use native.Mathlib.Omega.{arith}
use mathlib.Core.Path.{◌≡◌, refl, ap, sym, ◌∙◌}
use mathlib.Core.Bool.{Bool, true, false, ◌&&◌}
use mathlib.Core.Logic.{◌⊎◌, inl, inr}
use lib.Dec.{leb}
use borrow.Author.Tests.{leb-true, le-leb, lt-ltb}
use Rattle.std.proofs.lemmas.Bool.{both_ways}
use Rattle.runs.specs.Sums.{sum, one}
use Rattle.runs.specs.model.Jobs.{Task, Slot, idle, job, Run, given, Constrained}
use Rattle.runs.specs.model.Cache.{waits_of}
use Rattle.runs.specs.Promises.{inside}
use Rattle.runs.proofs.SumLaws.{sum-le, sum-has, sum_same, sum-empty, sum-none, sum-scale, sum-swap, sum-under, sum-split}
use Rattle.runs.proofs.JobLaws.{releases_of, given-once, tick-counts, served-mono, index-most}
use Rattle.runs.proofs.QuietLaws.{Quiet}
use Rattle.runs.proofs.OvertakingLaws.{Unblocked, kept}
use Rattle.std.proofs.lemmas.Grind.{common_steps}

pub one-and : (b d : Bool) → one (b && d) ≤ one b
one-and true true = omega arith
one-and true false = omega arith
one-and false d = omega arith

pub one-mid : (b d e : Bool) → one (b && (d && e)) ≤ one d
one-mid true d e = one-and d e
one-mid false d e = omega arith

pub and_none : (b d : Bool) → d ≡ false → (b && d) ≡ false
and_none true d e = e
and_none false d e = refl

-- a part of a sum over two
pub pair-has : (f : ℕ → ℕ → ℕ) (i n k m : ℕ) → k < i → m < n → f k m ≤ sum (λ j. sum (λ l. f j l) n) i
pair-has f i n k m d b = omega (arith, sum-has (λ l. f k l) n m b, sum-has (λ j. sum (λ l. f j l) n) i k d)

module _ (tasks : ℕ → Task) (size sets : ℕ) (z : Run) (legal : Unblocked tasks size z) (sane : (j : ℕ) → j < size → Constrained (tasks j)) where
  abbrev h : Run
  h = z

  pub index_of : (t j n : ℕ) → z.has t ≡ job j n → n ≤ t
  index_of t j n e =
      let p = legal.only_pending t j n e in
      omega (arith, p.1.0, index-most tasks size h (kept tasks size z legal sane) j n p.0 (sane j p.0).live)

  -- a job that has the processor after a tick at which the tasks above i are quiet is released from then on
  pub begun-by : (i a : ℕ) → Quiet h i a → (p l v : ℕ) → p < i → a ≤ v → z.has v ≡ job p l → a ≤ z.released p l
  begun-by i a quiet p l v b c e = go (dec_le a (z.released p l))
    where
      go : Dec (a ≤ z.released p l) → a ≤ z.released p l
      go (yes q) = q
      go (no q) = absurd (omega (arith, (legal.only_pending v p l e).1.1, quiet p l b (lt_of_not-le q), served-mono h p l a v c))

  module _ (i a x : ℕ) (quiet : Quiet h i a) where
    pub inside-by : (p l v : ℕ) → p < i → a ≤ v → v < a + x → z.has v ≡ job p l → inside a x (z.released p l) ≡ true
    inside-by p l v b c d e =
        let w = le-leb a (z.released p l) (begun-by i a quiet p l v b c e) in
        let y = lt-ltb (z.released p l) (a + x) (omega (arith, (legal.only_pending v p l e).1.0)) in
        rw (w, y) refl

    -- a job that is charged is released in the x ticks
    pub bound_by : (p l b : ℕ) (ch : ℕ → ℕ → Bool) → ((s c : ℕ) → s < x → ch s c ≡ true → inside a x (z.released p l) ≡ true)
        → sum (λ c. sum (λ s. one (ch s c)) x) sets ≤ b → sum (λ c. sum (λ s. one (ch s c)) x) sets ≤ one (inside a x (z.released p l)) * b
    bound_by p l b ch facts most = go (inside a x (z.released p l)) refl
      where
        empty : inside a x (z.released p l) ≡ false → (s c : ℕ) → s < x → (y : Bool) → ch s c ≡ y → one (ch s c) ≡ 0
        empty e s c d true f = absurd (both_ways (inside a x (z.released p l)) e (facts s c d f))
        empty e s c d false f = ap one f

        go : (y : Bool) → inside a x (z.released p l) ≡ y → sum (λ c. sum (λ s. one (ch s c)) x) sets ≤ one y * b
        go true e = omega (arith, most)
        go false e =
            let w : sum (λ c. sum (λ s. one (ch s c)) x) sets ≡ 0 = sum-empty _ sets (λ c k. sum-empty _ x (λ s d. empty e s c d (ch s c) refl)) in
            omega arith

    -- ---- reloads, by whom they are charged to

    module _ (g : ℕ → ℕ) (Facts : ℕ → ℕ → ℕ → ℕ → Type 0) (ev : ℕ → ℕ → Bool)
        (charged : (s c : ℕ) → s < x → ev s c ≡ true → (p : ℕ) × (l : ℕ) × (p < i) × (l < a + x) × Facts p l s c)
        (bound : (p l : ℕ) → p < i → (ch : ℕ → ℕ → Bool) → ((s c : ℕ) → s < x → ch s c ≡ true → Facts p l s c)
        → sum (λ c. sum (λ s. one (ch s c)) x) sets ≤ one (inside a x (z.released p l)) * g p) where
      abbrev Charge : ℕ → ℕ → Type 0
      Charge s c = (ev s c ≡ false) ⊎ ((p : ℕ) × (l : ℕ) × (p < i) × (l < a + x) × Facts p l s c)

      charge : (s c : ℕ) → s < x → Charge s c
      charge s c l = grind (arith, common_steps)

      abbrev slot_of : (s c : ℕ) → Charge s c → Slot
      slot_of s c (inl w) = idle
      slot_of s c (inr w) = job w.0 w.1

      abbrev slot_at : (s c : ℕ) → Dec (s < x) → Slot
      slot_at s c (yes l) = slot_of s c (charge s c l)
      slot_at s c (no l) = idle

      slot : ℕ → ℕ → Slot
      slot s c = slot_at s c (dec_le (suc s) x)

      slot-facts : (p l s c : ℕ) → given p l (slot s c) ≡ true → Facts p l s c
      unfolding slot
      slot-facts p l s c = grind (arith, common_steps)

      slot_counts : (s c : ℕ) → s < x → one (ev s c) ≤ sum (λ p. sum (λ l. one (given p l (slot s c))) (a + x)) i
      unfolding slot
      slot_counts s c b = at (dec_le (suc s) x)
        where
          most : (y : Bool) → one y ≤ 1
          most true = omega arith
          most false = omega arith

          of : (w : Charge s c) → one (ev s c) ≤ sum (λ p. sum (λ l. one (given p l (slot_of s c w))) (a + x)) i
          of (inl w) = let e : one (ev s c) ≡ 0 = ap one w in omega arith
          of (inr w) = le_trans (most (ev s c)) (tick-counts (job w.0 w.1) i (a + x) w.0 w.1 refl w.2 w.3)

          at : (d : Dec (s < x)) → one (ev s c) ≤ sum (λ p. sum (λ l. one (given p l (slot_at s c d))) (a + x)) i
          at (yes d) = of (charge s c d)
          at (no d) = absurd (d b)

      pub charges-most : sum (λ s. sum (λ c. one (ev s c)) sets) x ≤ sum (λ p. releases_of h p (a + x) a x * g p) i
      charges-most =
          le_trans (sum-le _ (λ s. sum (λ c. sum (λ p. sum (λ l. one (given p l (slot s c))) (a + x)) i) sets) x (λ s b. sum-le _ _ sets (λ c d. slot_counts s c b)))
          (le_trans (le_of_eq (
          sum_same _ (λ s. sum (λ p. sum (λ l. sum (λ c. one (given p l (slot s c))) sets) (a + x)) i) x
          (λ s b. sum-under (λ p l c. one (given p l (slot s c))) sets i (a + x))
          ∙ sum-under (λ p l s. sum (λ c. one (given p l (slot s c))) sets) x i (a + x)
          ∙ sum_same _ (λ p. sum (λ l. sum (λ c. sum (λ s. one (given p l (slot s c))) x) sets) (a + x)) i
          (λ p b. sum_same _ _ (a + x) (λ l d. sum-swap (λ c s. one (given p l (slot s c))) x sets))))
          (le_trans (sum-le _ (λ p. sum (λ l. one (inside a x (z.released p l)) * g p) (a + x)) i
          (λ p b. sum-le _ _ (a + x) (λ l d. bound p l b (λ s c. given p l (slot s c)) (λ s c q e. slot-facts p l s c e))))
          (le_of_eq (sum_same _ _ i (λ p b. sum-scale _ (g p) (a + x))))))

-- ---- ticks of waiting, by reloads: `rel` says what is a reload of the job that has the processor

module _ (tasks : ℕ → Task) (size sets brt : ℕ) (rel : ℕ → ℕ → ℕ → ℕ → Bool) (z : Run) (legal : Unblocked tasks size z)
    (waits_only : (j n t : ℕ) → j < size → waits_of z j n t ≤ brt * sum (λ s. sum (λ c. one (given j n (z.has s) && rel j n s c)) sets) t)
    (i : ℕ) (there : i < size) (a x : ℕ) where
  abbrev reloads : ℕ → ℕ → ℕ → ℕ → Bool
  reloads j m t c = given j m (z.has t) && rel j m t c

  not_yet : (j m s : ℕ) → s < z.released j m → given j m (z.has s) ≡ false
  not_yet j m s l = grind (arith, common_steps)

  -- the job is released in the window or later
  abbrev pub fresh : ℕ → ℕ → Bool
  fresh j m = leb a (z.released j m)

  waits-job : (j m : ℕ) → j ≤ i
      → sum (λ s. one (fresh j m && (z.waits (a + s) && given j m (z.has (a + s))))) x
      ≤ sum (λ s. sum (λ c. one (fresh j m && reloads j m (a + s) c)) sets) x * brt
  waits-job j m d = go (fresh j m) refl
    where
      go : (b : Bool) → fresh j m ≡ b
          → sum (λ s. one (b && (z.waits (a + s) && given j m (z.has (a + s))))) x ≤ sum (λ s. sum (λ c. one (b && reloads j m (a + s) c)) sets) x * brt
      go false q = let e = sum-none x in omega arith
      go true q =
          let w = sum-split (λ s. one (z.waits s && given j m (z.has s))) a x in
          let r = sum-split (λ s. sum (λ c. one (reloads j m s c)) sets) a x in
          let e : sum (λ s. sum (λ c. one (reloads j m s c)) sets) a ≡ 0 =
          sum-empty _ a (λ s l. sum-empty _ sets (λ c b. let f = not_yet j m s (omega (arith, leb-true a (z.released j m) q)) in rw f refl)) in
          let f : sum (λ s. sum (λ c. one (reloads j m s c)) sets) (a + x) ≡ sum (λ s. sum (λ c. one (reloads j m (a + s) c)) sets) x = omega arith in
          let v = rw f at (waits_only j m (a + x) (omega arith)) in
          omega (arith, mul_comm brt (sum (λ s. sum (λ c. one (reloads j m (a + s) c)) sets) x))

  -- a task that is not below i reloads cache set c in tick a + s, in a job that is released since a
  abbrev pub reloads_above : Slot → ℕ → ℕ → Bool
  reloads_above idle s c = false
  reloads_above (job k m) s c = leb k i && (fresh k m && reloads k m (a + s) c)

  abbrev pub mine_at : ℕ → ℕ → Bool
  mine_at s c = reloads_above (z.has (a + s)) s c

  own-counts : (s c : ℕ) → sum (λ j. sum (λ m. one (fresh j m && reloads j m (a + s) c)) (a + x)) (suc i) ≤ one (mine_at s c)
  own-counts s c = at (z.has (a + s)) refl
    where
      Ev : ℕ → ℕ → Bool
      Ev j m = fresh j m && reloads j m (a + s) c

      empty : ((j m : ℕ) → j ≤ i → Ev j m ≡ false) → sum (λ j. sum (λ m. one (Ev j m)) (a + x)) (suc i) ≤ 0
      empty none = le_of_eq (sum-empty _ (suc i) (λ j l. sum-empty _ (a + x) (λ m d. ap one (none j m (omega arith)))))

      none : (k m : ℕ) → z.has (a + s) ≡ job k m → (leb k i && Ev k m) ≡ false → (j n : ℕ) → j ≤ i → (y : Bool)
          → given j n (z.has (a + s)) ≡ y → Ev j n ≡ false
      none k m e f j n d y q = grind (arith, common_steps)

      which : (k m : ℕ) → z.has (a + s) ≡ job k m → (b : Bool) → (leb k i && Ev k m) ≡ b
          → sum (λ j. sum (λ m. one (Ev j m)) (a + x)) (suc i) ≤ one b
      which k m e false f = empty (λ j n d. none k m e f j n d (given j n (z.has (a + s))) refl)
      which k m e true f =
          le_trans (sum-le _ (λ j. sum (λ m. one (given j m (z.has (a + s)))) (a + x)) (suc i) (λ j l. sum-le _ _ (a + x) (λ m d. one-mid (fresh j m) (given j m (z.has (a + s))) _)))
          (given-once (z.has (a + s)) (suc i) (a + x))

      at : (y : Slot) → z.has (a + s) ≡ y → sum (λ j. sum (λ m. one (Ev j m)) (a + x)) (suc i) ≤ one (reloads_above y s c)
      at idle e = empty (λ j n d. and_none (fresh j n) (reloads j n (a + s) c) (rw e refl))
      at (job k m) e = which k m e (leb k i && Ev k m) refl

  unfoldable pub waiting : ℕ → ℕ
  waiting s = sum (λ j. sum (λ m. one (fresh j m && (z.waits (a + s) && given j m (z.has (a + s))))) (a + x)) (suc i)

  pub waiting-total : sum waiting x ≤ sum (λ s. sum (λ c. one (mine_at s c)) sets) x * brt
  unfolding waiting
  waiting-total =
      le_trans (le_of_eq (sum-under (λ j m s. one (fresh j m && (z.waits (a + s) && given j m (z.has (a + s))))) x (suc i) (a + x)))
      (le_trans (sum-le _ _ (suc i) (λ j l. sum-le _ _ (a + x) (λ m b. waits-job j m (omega arith))))
      (le_trans (le_of_eq (sum_same _ _ (suc i) (λ j l. sum-scale _ brt (a + x)) ∙ sum-scale _ brt (suc i)))
      (mul-le-mul_right brt
      (le_trans (le_of_eq (
      sym (sum-under (λ j m s. sum (λ c. one (fresh j m && reloads j m (a + s) c)) sets) x (suc i) (a + x))
      ∙ sum_same _ _ x (λ s b. sym (sum-under (λ j m c. one (fresh j m && reloads j m (a + s) c)) sets (suc i) (a + x)))))
      (sum-le _ _ x (λ s b. sum-le _ _ sets (λ c d. own-counts s c)))))))
