-- A window that begins where all that i and the tasks above have released is complete, and in each tick of which one of them has the processor,
-- or the blocker: it holds no more than the demand.
use Prim.Native.Nat.{ℕ, zero, suc, ◌+◌, ◌*◌, ◌≤◌, ◌<◌}
use native.Mathlib.Nat.{eq-or-lt_of_le, lt_of_not-le, le_trans, le_of_eq, mul_comm, mul_assoc, mul-add, add-mul, mul-le-mul, mul-le-mul_right}
use native.Mathlib.Decide.{dec_le}
use native.Mathlib.Numerals.{add-one}
use native.Mathlib.Omega.{arith}
use mathlib.Core.Path.{◌≡◌, refl, ap, sym, ◌∙◌}
use mathlib.Core.Bool.{Bool, true, false, ◌&&◌}
use mathlib.Core.Logic.{◌⊎◌, inl, inr}
use borrow.Author.Tests.{le-leb, lt-ltb}
use Rattle.search.specs.declared.demand.Term.{Term}
use Rattle.search.specs.Demand.{term_of, work_of, demand_of}
use Rattle.search.proofs.DemandLaws.{ceil-le, demand-none, demand-next}
use Rattle.runs.specs.Sums.{sum, one}
use Rattle.runs.specs.model.Jobs.{Task, idle, job, Run, given, Constrained, works}
use Rattle.runs.specs.model.Cache.{waits_of}
use Rattle.runs.specs.Promises.{inside}
use Rattle.runs.proofs.SumLaws.{sum-le, sum-add, sum_ones, sum_same, sum-scale, sum-under, sum-split}
use Rattle.runs.proofs.JobLaws.{Kept, releases_of, given-self, tick-counts, served-mono, served-inside, index-most, releases-most}
use Rattle.runs.proofs.QuietLaws.{Quiet, Hungry}
use Rattle.runs.proofs.OvertakingLaws.{Unblocked, kept}
use Rattle.runs.proofs.ChargeLaws.{pair-has, index_of, begun-by, fresh, mine_at, waiting, waiting-total}

-- the demand, as a sum
pub demand-sum : (own : ℕ) (t : ℕ → Term) (r n : ℕ) → demand_of own t n r ≡ own + sum (λ j. work_of r (t j)) n
unfolding sum
demand-sum own t r zero = omega (arith, demand-none own t r)
demand-sum own t r (suc n) = omega (arith, demand-sum own t r n, rw add-one at (demand-next own t r n))

-- what the tasks above i ask for, where each release of the one at j costs `each j` ticks beside its work
abbrev pub terms_of : (ℕ → Task) → (ℕ → ℕ) → ℕ → Term
terms_of tasks each j = term_of (tasks j).period (tasks j).jitter ((tasks j).cost + each j)

-- one part is less, so the whole is
sum_less : (f g : ℕ → ℕ) (n : ℕ) → ((k : ℕ) → k < n → f k ≤ g k) → (k : ℕ) → k < n → f k < g k → sum f n < sum g n
unfolding sum
sum_less f g zero p k l q = absurd (omega arith)
sum_less f g (suc n) p k l q = go (eq-or-lt_of_le (omega arith)) (λ d. sum_less f g n (λ j b. p j (omega arith)) k d q)
  where
    go : (k ≡ n) ⊎ (k < n) → (k < n → sum f n < sum g n) → sum f n + f n < sum g n + g n
    go (inl e) rest =
        let r : f n < g n = rw e at q in
        omega (arith, sum-le f g n (λ j b. p j (omega arith)))
    go (inr d) rest = omega (arith, rest d, p n (omega arith))

module _ (tasks : ℕ → Task) (size sets brt : ℕ) (rel : ℕ → ℕ → ℕ → ℕ → Bool) (z : Run) (legal : Unblocked tasks size z)
    (waits_only : (j n t : ℕ) → j < size → waits_of z j n t ≤ brt * sum (λ s. sum (λ c. one (given j n (z.has s) && rel j n s c)) sets) t)
    (sane : (j : ℕ) → j < size → Constrained (tasks j)) (i : ℕ) (there : i < size) (a x : ℕ) (quiet : Quiet z (suc i) a) where
  abbrev h : Run
  h = z

  keeps : Kept tasks size h
  keeps = kept tasks size z legal sane

  abbrev mine : ℕ → ℕ → Bool
  mine s c = mine_at tasks size sets brt rel z legal waits_only i there a x s c

  abbrev waits : ℕ → ℕ
  waits s = waiting tasks size sets brt rel z legal waits_only i there a x s

  abbrev new : ℕ → ℕ → Bool
  new j m = fresh tasks size sets brt rel z legal waits_only i there a x j m

  -- ---- the ticks of the window

  module _ (once : ℕ) (block : ℕ → Bool) (ev : ℕ → ℕ → Bool) (g : ℕ → ℕ)
      (runner : (s : ℕ) → s < x → ((k : ℕ) × (m : ℕ) × (z.has (a + s) ≡ job k m) × (k ≤ i)) ⊎ (block s ≡ true))
      (blocked : sum (λ s. one (block s)) x ≤ once + brt * sum (λ s. sum (λ c. one (ev s c)) sets) x)
      (most : sum (λ s. sum (λ c. one (mine s c)) sets) x + sum (λ s. sum (λ c. one (ev s c)) sets) x ≤ sum (λ p. releases_of h p (a + x) a x * g p) i)
      (covers : demand_of ((tasks i).cost + once) (terms_of tasks (λ j. brt * g j)) i x ≤ x) (fits : x + (tasks i).jitter ≤ (tasks i).deadline) where
    working : ℕ → ℕ
    working s = sum (λ j. sum (λ m. one (given j m (works h (a + s)))) (a + x)) (suc i)

    tick : (s : ℕ) → s < x → 1 ≤ working s + waits s + one (block s)
    unfolding working waiting
    tick s l = go (runner s l)
      where
        at : (k m : ℕ) → z.has (a + s) ≡ job k m → k ≤ i → (b : Bool)
            → 1 ≤ sum (λ j. sum (λ m. one (given j m (elim b [ true ↦ idle | false ↦ z.has (a + s) ]))) (a + x)) (suc i)
            + sum (λ j. sum (λ m. one (new j m && (b && given j m (z.has (a + s))))) (a + x)) (suc i) + one (block s)
        at k m e d false = omega (arith, tick-counts (z.has (a + s)) (suc i) (a + x) k m e (omega arith) (omega (arith, index_of tasks size sets z legal sane (a + s) k m e)))
        at k m e d true =
            let f : new k m ≡ true = le-leb a (z.released k m) (begun-by tasks size sets z legal sane (suc i) a quiet k m (a + s) (omega arith) (omega arith) e) in
            let v : one (new k m && given k m (z.has (a + s))) ≡ 1 = rw (f, given-self k m (z.has (a + s)) e) refl in
            omega (arith, pair-has (λ j m. one (new j m && given j m (z.has (a + s)))) (suc i) (a + x) k m (omega arith) (omega (arith, index_of tasks size sets z legal sane (a + s) k m e)))

        go : ((k : ℕ) × (m : ℕ) × (z.has (a + s) ≡ job k m) × (k ≤ i)) ⊎ (block s ≡ true)
            → 1 ≤ sum (λ j. sum (λ m. one (given j m (elim (z.waits (a + s)) [ true ↦ idle | false ↦ z.has (a + s) ]))) (a + x)) (suc i)
            + sum (λ j. sum (λ m. one (new j m && (z.waits (a + s) && given j m (z.has (a + s))))) (a + x)) (suc i) + one (block s)
        go (inl (k, m, e, d)) = at k m e d (z.waits (a + s))
        go (inr e) = let w : one (block s) ≡ 1 = ap one e in omega arith

    counted : x ≤ sum working x + sum waits x + sum (λ s. one (block s)) x
    counted =
        omega (
          arith,
          sum_ones x,
          sum-le (λ s. 1) (λ s. working s + waits s + one (block s)) x tick,
          sum-add (λ s. working s + waits s) (λ s. one (block s)) x,
          sum-add working waits x,
        )

    -- the work of the window
    by-job : (j m : ℕ) → j ≤ i → sum (λ s. one (given j m (works h (a + s)))) x ≤ one (inside a x (z.released j m)) * (tasks j).cost
    by-job j m l = served-inside tasks size h keeps j m a x (omega arith) (quiet j m (omega arith))

    by_rows : sum working x ≡ sum (λ j. sum (λ m. sum (λ s. one (given j m (works h (a + s)))) x) (a + x)) (suc i)
    unfolding working
    by_rows = sum-under (λ j m s. one (given j m (works h (a + s)))) x (suc i) (a + x)

    by-task : (j : ℕ) → sum (λ m. one (inside a x (z.released j m)) * (tasks j).cost) (a + x) ≡ releases_of h j (a + x) a x * (tasks j).cost
    by-task j = sum-scale (λ m. one (inside a x (z.released j m))) (tasks j).cost (a + x)

    work-task : (j : ℕ) → j ≤ i → sum (λ m. sum (λ s. one (given j m (works h (a + s)))) x) (a + x) ≤ releases_of h j (a + x) a x * (tasks j).cost
    work-task j l = le_trans (sum-le _ _ (a + x) (λ m b. by-job j m l)) (le_of_eq (by-task j))

    work-most : sum working x ≤ sum (λ j. releases_of h j (a + x) a x * (tasks j).cost) (suc i)
    work-most = le_trans (le_of_eq by_rows) (sum-le _ _ (suc i) (λ j l. work-task j (omega arith)))

    -- and less than that, where a job is left
    work-less : Hungry h (suc i) (a + x) → sum working x < sum (λ j. releases_of h j (a + x) a x * (tasks j).cost) (suc i)
    work-less (j, m, l, r, p) =
        let w = sum_less (λ j. sum (λ m. sum (λ s. one (given j m (works h (a + s)))) x) (a + x)) (λ j. releases_of h j (a + x) a x * (tasks j).cost) (suc i)
        (λ j l. work-task j (omega arith)) j l
        (let v = sum_less (λ m. sum (λ s. one (given j m (works h (a + s)))) x) (λ m. one (inside a x (z.released j m)) * (tasks j).cost) (a + x)
        (λ m b. by-job j m (omega arith)) m (omega (arith, index-most tasks size h keeps j m (omega arith) (sane j (omega arith)).live))
        (left (dec_le a (z.released j m))) in
        omega (arith, by-task j)) in
        omega (arith, by_rows)
      where
        left : Dec (a ≤ z.released j m) → sum (λ s. one (given j m (works h (a + s)))) x < one (inside a x (z.released j m)) * (tasks j).cost
        left (no q) = absurd (omega (arith, quiet j m l (lt_of_not-le q), p, served-mono h j m a (a + x) (omega arith)))
        left (yes q) =
            let e : inside a x (z.released j m) ≡ true = rw (le-leb a (z.released j m) q, lt-ltb (z.released j m) (a + x) r) refl in
            let f : one (inside a x (z.released j m)) ≡ 1 = ap one e in
            rw f (omega (arith, p, legal.jobs.no_more j m (omega arith), sum-split (λ s. one (given j m (works h s))) a x))

    -- of the jobs of i at most one is released in the window
    one-job : releases_of h i (a + x) a x ≤ 1
    one-job =
        le_trans (releases-most tasks size h keeps i (a + x) a x there (sane i there).live)
        ((ceil-le (x + (tasks i).jitter) 1 (tasks i).period (sane i there).live).1 (omega (arith, (sane i there).deadline, fits)))

    last_sum : (f : ℕ → ℕ) → sum f (suc i) ≡ sum f i + f i
    unfolding sum
    last_sum f = refl

    asked : sum (λ j. releases_of h j (a + x) a x * (tasks j).cost) i + sum (λ j. releases_of h j (a + x) a x * (brt * g j)) i
        ≤ sum (λ j. work_of x (terms_of tasks (λ j. brt * g j) j)) i
    asked =
        rw (← (sum-add (λ j. releases_of h j (a + x) a x * (tasks j).cost) (λ j. releases_of h j (a + x) a x * (brt * g j)) i))
        (sum-le _ _ i (λ j l.
        rw (← (mul-add (releases_of h j (a + x) a x) (tasks j).cost (brt * g j)))
        (mul-le-mul (releases-most tasks size h keeps j (a + x) a x (omega arith) (sane j (omega arith)).live) (omega arith))))

    charged-ticks : (sum (λ s. sum (λ c. one (mine s c)) sets) x + sum (λ s. sum (λ c. one (ev s c)) sets) x) * brt
        ≤ sum (λ j. releases_of h j (a + x) a x * (brt * g j)) i
    charged-ticks =
        le_trans (mul-le-mul_right brt most)
        (le_of_eq (sym (sum-scale (λ p. releases_of h p (a + x) a x * g p) brt i)
        ∙ sum_same _ _ i (λ p l. mul_assoc (releases_of h p (a + x) a x) (g p) brt
        ∙ ap (λ (y : ℕ). releases_of h p (a + x) a x * y) (mul_comm (g p) brt))))

    -- SO THE WINDOW ENDS: no job is left, and the blocker has ended
    pub ended : Hungry h (suc i) (a + x) ⊎ (sum (λ s. one (block s)) x < once + brt * sum (λ s. sum (λ c. one (ev s c)) sets) x) → ⊥
    ended late =
        omega (
          arith,
          counted,
          waiting-total tasks size sets brt rel z legal waits_only i there a x,
          strict late,
          last_sum (λ j. releases_of h j (a + x) a x * (tasks j).cost),
          mul-le-mul_right (tasks i).cost one-job,
          asked,
          charged-ticks,
          add-mul (sum (λ s. sum (λ c. one (mine s c)) sets) x) (sum (λ s. sum (λ c. one (ev s c)) sets) x) brt,
          mul_comm brt (sum (λ s. sum (λ c. one (ev s c)) sets) x),
          demand-sum ((tasks i).cost + once) (terms_of tasks (λ j. brt * g j)) x i,
          covers,
        )
      where
        strict : Hungry h (suc i) (a + x) ⊎ (sum (λ s. one (block s)) x < once + brt * sum (λ s. sum (λ c. one (ev s c)) sets) x)
            → sum working x + sum (λ s. one (block s)) x
            < sum (λ j. releases_of h j (a + x) a x * (tasks j).cost) (suc i) + (once + brt * sum (λ s. sum (λ c. one (ev s c)) sets) x)
        strict (inl w) = omega (arith, work-less w, blocked)
        strict (inr w) = omega (arith, work-most, w)
