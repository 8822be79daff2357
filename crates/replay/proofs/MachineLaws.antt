-- The machine: what a tick does to a task's jobs, and what the walk over the ticks finds.
use Rattle.std.proofs.Common.{◌≡◌, ℕ, zero, suc, ◌+◌, ◌<◌, Bool, true, false, List, [], ◌∷◌, ◌++◌, sum, arith, refl, below_more, Option, Some, lt-ltb, le-ltb}
use Rattle.std.proofs.lemmas.List.Sums.{sum_by-cons}
use Rattle.cache.specs.declared.units.Ticks.{Ticks}
use Rattle.table.specs.declared.tasks.Task.{Task}
use Rattle.replay.specs.Replay.{run_job, run_highest, first_done_at, end_from, first_end, EndsFirst}

pub sum-cons : (l : ℕ) (js : List ℕ) → sum (l ∷ js) ≡ l + sum js
sum-cons l js = sum_by-cons (λ (x : ℕ). x) l js

-- a release adds to the work left
pub sum-snoc : (js : List ℕ) (c : ℕ) → sum (js ++ (c ∷ [])) ≡ sum js + c
sum-snoc [] c = omega (arith, sum-cons c [])
sum-snoc (l ∷ js) c = omega (arith, sum-snoc js c, sum-cons l js, sum-cons l (js ++ (c ∷ [])))

-- a tick takes one unit from the work left of the task that runs
pub sum-run : (js : List ℕ) (l : ℕ) → sum js ≡ suc l → sum (run_job js) ≡ l
unfolding run_job
sum-run [] l e = absurd (omega arith)
sum-run (zero ∷ js) l e = omega (arith, sum-run js l (omega (arith, sum-cons 0 js)), sum-cons 0 (run_job js))
sum-run (suc x ∷ js) l e = omega (arith, sum-cons (suc x) js, sum-cons x js)

pub run-zero : (js : List ℕ) (jss : List (List ℕ)) → sum js ≡ 0 → run_highest (js ∷ jss) ≡ js ∷ run_highest jss
unfolding run_highest
run-zero js jss e = rw (le-ltb 0 (sum js) (omega arith)) refl

pub run-suc : (js : List ℕ) (jss : List (List ℕ)) (l : ℕ) → sum js ≡ suc l → run_highest (js ∷ jss) ≡ run_job js ∷ jss
unfolding run_highest
run-suc js jss l e = rw (lt-ltb 0 (sum js) (omega arith)) refl

-- the walk finds what the answer means
ends-first : (tasks : List Task) (i limit s k : ℕ) → s + k ≡ suc limit → ((r : ℕ) → r < s → first_done_at tasks i r ≡ false)
    → EndsFirst tasks i limit (end_from tasks i s k)
unfolding EndsFirst end_from
ends-first tasks i limit s zero e below = below limit (omega arith)
ends-first tasks i limit s (suc k) e below = go (first_done_at tasks i s) refl (ends-first tasks i limit (suc s) k (omega arith))
  where
    go : (x : Bool) → first_done_at tasks i s ≡ x
        → (((r : ℕ) → r < suc s → first_done_at tasks i r ≡ false) → EndsFirst tasks i limit (end_from tasks i (suc s) k))
        → EndsFirst tasks i limit (elim x [ true ↦ Some (record { 0 = s }) | false ↦ end_from tasks i (suc s) k ])
    go true q rest = (omega arith, q, below)
    go false q rest = rest (λ r l. below_more (λ (r : ℕ). first_done_at tasks i r ≡ false) s below q r (omega arith))

pub first-means : (tasks : List Task) (i limit : ℕ) (a : Option Ticks) → a ≡ first_end tasks i limit → EndsFirst tasks i limit a
unfolding first_end
first-means tasks i limit a e = rw e (ends-first tasks i limit 0 (suc limit) (omega arith) (λ r l. absurd (omega arith)))
