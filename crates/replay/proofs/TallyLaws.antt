-- The tally is right about the jobs: a task has been given its C exactly when its first job has ended, and it has work exactly when its jobs have. And it stays small.
use Rattle.std.proofs.Common.{◌≡◌, ℕ, zero, suc, ◌+◌, ◌-◌, ◌*◌, ◌%◌, ◌≤◌, ◌<◌, Bool, true, false, cond, List, [], ◌∷◌, ◌++◌, length, get_or, replicate, sum, position, Option, option_map, Some, None, All, arith, refl, ap, sym, ◌∙◌, eqb, ltb, leb, le-leb, lt-ltb, le-ltb, ltb-true, ltb-false}
use Rattle.std.specs.List.{position_or_len}
use Rattle.std.proofs.lemmas.Bool.{lt-leb}
use Rattle.std.proofs.lemmas.List.Elements.{All-head, All-tail}
use Rattle.std.proofs.lemmas.List.Quantifiers.{position-Some}
use Rattle.table.specs.declared.tasks.Task.{Task}
use Rattle.table.specs.Tasks.{blank}
use Rattle.replay.specs.declared.Work.{Work}
use Rattle.replay.specs.Replay.{release, has_work, run_job, run_highest, jobs_after, runs_at, is_first_done, first_done_at}
use Rattle.replay.specs.Tally.{Runnable, due, idle, add_due, is_busy, give, tally, done_at, work_at, Most}
use Rattle.replay.proofs.MachineLaws.{sum-snoc, sum-run, run-zero, run-suc}

-- a tick passes a task that has no work, and stays with one that has
pub give-zero : (w : Work) (ws : List Work) → w.left ≡ 0 → give (w ∷ ws) ≡ w ∷ give ws
unfolding give
give-zero w ws e =
    ap {B = List Work} (λ (l : ℕ). elim l [ zero ↦ w ∷ give ws | suc l ↦ record { left = l; done = w.done + 1 } ∷ ws ]) e

pub give-suc : (w : Work) (ws : List Work) (l : ℕ) → w.left ≡ suc l → give (w ∷ ws) ≡ record { left = l; done = w.done + 1 } ∷ ws
unfolding give
give-suc w ws l e =
    ap {B = List Work} (λ (l : ℕ). elim l [ zero ↦ w ∷ give ws | suc l ↦ record { left = l; done = w.done + 1 } ∷ ws ]) e

-- a task's tally is that of its jobs. A first job that is not released counts as whole
record Tallies (task : Task) (w : Work) (js : List ℕ) : Type 0 where
  left : w.left ≡ sum js
  first : get_or js 0 task.work.0 ≡ task.work.0 - w.done

data AllTally : List Task → List Work → List (List ℕ) → Type 0 where
  none : AllTally [] [] []
  more : {task : Task} {w : Work} {js : List ℕ} {tasks : List Task} {ws : List Work} {jss : List (List ℕ)}
      → Tallies task w js → AllTally tasks ws jss → AllTally (task ∷ tasks) (w ∷ ws) (js ∷ jss)

tally-at : {tasks : List Task} {ws : List Work} {jss : List (List ℕ)} → AllTally tasks ws jss
    → (i : ℕ) → i < length tasks → Tallies (get_or tasks i blank) (get_or ws i idle) (get_or jss i [])
tally-at none i h = absurd (omega arith)
tally-at (more p ps) zero h = p
tally-at (more p ps) (suc i) h = tally-at ps i (omega arith)

-- at the start
tally-start : (tasks : List Task) → AllTally tasks (replicate (length tasks) idle) (replicate (length tasks) [])
tally-start [] = none
tally-start (task ∷ tasks) = let p : Tallies task idle [] = record { left = refl; first = omega arith } in more p (tally-start tasks)

-- through a release
first-snoc : (js : List ℕ) (c : ℕ) → get_or (js ++ (c ∷ [])) 0 c ≡ get_or js 0 c
first-snoc [] c = refl
first-snoc (l ∷ js) c = refl

tally-release : (t : ℕ) {tasks : List Task} {ws : List Work} {jss : List (List ℕ)}
    → AllTally tasks ws jss → AllTally tasks (add_due t tasks ws) (release t tasks jss)
unfolding add_due release
tally-release t none = none
tally-release t (more {task = task} {w = w} {js = js} p ps) = more (go (eqb (t % task.period.0) 0)) (tally-release t ps)
  where
    go : (b : Bool) → Tallies task (record { left = w.left + cond b task.work.0 0; done = w.done }) (cond b (js ++ (task.work.0 ∷ [])) js)
    go true = record { left = omega (arith, p.left, sum-snoc js task.work.0); first = first-snoc js task.work.0 ∙ p.first }
    go false = record { left = omega (arith, p.left); first = p.first }

-- through a tick
first_run : (js : List ℕ) (l c d : ℕ) → sum js ≡ suc l → get_or js 0 c ≡ c - d → get_or (run_job js) 0 c ≡ c - (d + 1)
unfolding run_job
first_run [] l c d e q = absurd (omega arith)
first_run (zero ∷ js) l c d e q = omega arith
first_run (suc x ∷ js) l c d e q = omega arith

tally-run : {tasks : List Task} {ws : List Work} {jss : List (List ℕ)} → AllTally tasks ws jss → AllTally tasks (give ws) (run_highest jss)
unfolding give run_highest
tally-run none = none
tally-run (more {task = task} {w = w} {js = js} {tasks = tasks} {ws = ws} {jss = jss} p ps) = go w.left refl (tally-run ps)
  where
    go : (l : ℕ) → w.left ≡ l → AllTally tasks (give ws) (run_highest jss) → AllTally (task ∷ tasks) (give (w ∷ ws)) (run_highest (js ∷ jss))
    go zero e rest =
        let z : sum js ≡ 0 = omega (arith, p.left) in
        rw (give-zero w ws e, run-zero js jss z) (more p rest)
    go (suc l) e rest =
        let z : sum js ≡ suc l = omega (arith, p.left) in
        rw (give-suc w ws l e, run-suc js jss l z) (more (record { left = sym (sum-run js l z); first = first_run js l _ _ z p.first }) ps)

tally-after : (tasks : List Task) (t : ℕ) → AllTally tasks (tally tasks t) (jobs_after tasks t)
unfolding tally jobs_after
tally-after tasks zero = tally-start tasks
tally-after tasks (suc t) = tally-run (tally-release t (tally-after tasks t))

-- the first job has ended exactly when C ticks have been given
pub ended_is : (tasks : List Task) (i t : ℕ) → i < length tasks → 1 ≤ work_at tasks i → first_done_at tasks i t ≡ leb (work_at tasks i) (done_at tasks i t)
ended_is tasks i t h c = go (get_or (jobs_after tasks t) i []) (tally-at (tally-after tasks t) i h).first
  where
    go : (js : List ℕ) → get_or js 0 (work_at tasks i) ≡ work_at tasks i - done_at tasks i t → is_first_done js ≡ leb (work_at tasks i) (done_at tasks i t)
    go [] e = sym (lt-leb (work_at tasks i) (done_at tasks i t) (omega arith))
    go (zero ∷ js) e = sym (le-leb (work_at tasks i) (done_at tasks i t) (omega arith))
    go (suc l ∷ js) e = sym (lt-leb (work_at tasks i) (done_at tasks i t) (omega arith))

-- the first of a list that passes
module _ {X : Type 0} (p : X → Bool) (x : X) (xs : List X) where
  pub position-yes : p x ≡ true → position p (x ∷ xs) ≡ Some 0
  position-yes e = rw e (ap {B = Option ℕ} (λ (b : Bool). cond b (Some 0) None) (lt-ltb 0 (suc (length xs)) (omega arith)))

  pub position-no : p x ≡ false → position p (x ∷ xs) ≡ option_map (λ k. k + 1) (position p xs)
  position-no e = rw e (go (ltb (position_or_len p xs) (length xs)) refl)
    where
      go : (b : Bool) → ltb (position_or_len p xs) (length xs) ≡ b
          → cond (ltb (1 + position_or_len p xs) (suc (length xs))) (Some (1 + position_or_len p xs)) None
          ≡ option_map (λ k. k + 1) (cond (ltb (position_or_len p xs) (length xs)) (Some (position_or_len p xs)) None)
      go true q = rw (q, lt-ltb (1 + position_or_len p xs) (suc (length xs)) (omega (arith, ltb-true _ _ q))) (ap Some (omega arith))
      go false q = rw (q, le-ltb (1 + position_or_len p xs) (suc (length xs)) (omega (arith, ltb-false _ _ q))) refl

-- who has work has work in the tally
busy-same : {tasks : List Task} {ws : List Work} {jss : List (List ℕ)} → AllTally tasks ws jss → position is_busy ws ≡ position has_work jss
busy-same none = refl
busy-same (more {w = w} {js = js} {ws = ws} {jss = jss} p ps) = go (ltb 0 w.left) refl (ap (ltb 0) p.left) (busy-same ps)
  where
    go : (b : Bool) → ltb 0 w.left ≡ b → ltb 0 w.left ≡ ltb 0 (sum js) → position is_busy ws ≡ position has_work jss → position is_busy (w ∷ ws) ≡ position has_work (js ∷ jss)
    go true e f rest = position-yes is_busy w ws e ∙ sym (position-yes has_work js jss (sym f ∙ e))
    go false e f rest = position-no is_busy w ws e ∙ ap (option_map (λ (k : ℕ). k + 1)) rest ∙ sym (position-no has_work js jss (sym f ∙ e))

pub busy_is : (tasks : List Task) (t : ℕ) → position is_busy (add_due t tasks (tally tasks t)) ≡ runs_at tasks t
busy_is tasks t = busy-same (tally-release t (tally-after tasks t))

-- only a task that is there runs
add_due-short : (t : ℕ) (tasks : List Task) (ws : List Work) → length (add_due t tasks ws) ≤ length tasks
unfolding add_due
add_due-short t [] ws = omega arith
add_due-short t (task ∷ tasks) [] = omega arith
add_due-short t (task ∷ tasks) (w ∷ ws) = omega (arith, add_due-short t tasks ws)

pub runs-there : (tasks : List Task) (t k : ℕ) → runs_at tasks t ≡ Some k → k < length tasks
runs-there tasks t k e = omega (arith, (position-Some is_busy (add_due t tasks (tally tasks t)) k idle (busy_is tasks t ∙ e)).0, add_due-short t tasks (tally tasks t))

-- a tick moves one unit from what is left to what is done, so no task's tally passes its C for each tick
abbrev held : List Work → ℕ → ℕ
held ws j = (get_or ws j idle).left + (get_or ws j idle).done

give-keeps : (ws : List Work) (j : ℕ) → held (give ws) j ≡ held ws j
unfolding give
give-keeps [] j = refl
give-keeps (w ∷ ws) j = go w.left refl j (give-keeps ws)
  where
    go : (l : ℕ) → w.left ≡ l → (j : ℕ) → ((j : ℕ) → held (give ws) j ≡ held ws j) → held (give (w ∷ ws)) j ≡ held (w ∷ ws) j
    go zero e zero rest = rw (give-zero w ws e)
    go zero e (suc j) rest = rw (give-zero w ws e) (rest j)
    go (suc l) e zero rest = rw (give-suc w ws l e) (omega arith)
    go (suc l) e (suc j) rest = rw (give-suc w ws l e)

due-most : (t : ℕ) (task : Task) → Runnable task → due t task ≤ 250000000
due-most t task p = go (eqb (t % task.period.0) 0)
  where
    go : (b : Bool) → cond b task.work.0 0 ≤ 250000000
    go true = p.most
    go false = omega arith

pub most-due : (t b : ℕ) (tasks : List Task) (ws : List Work) → All Runnable tasks → Most b ws → Most (b + 250000000) (add_due t tasks ws)
unfolding add_due
most-due t b [] ws p m j = omega arith
most-due t b (task ∷ tasks) [] p m j = omega arith
most-due t b (task ∷ tasks) (w ∷ ws) p m zero = omega (arith, m 0, due-most t task (All-head Runnable task tasks p))
most-due t b (task ∷ tasks) (w ∷ ws) p m (suc j) = most-due t b tasks ws (All-tail Runnable task tasks p) (λ j. m (suc j)) j

idle-at : (n j : ℕ) → get_or (replicate n idle) j idle ≡ idle
idle-at zero j = refl
idle-at (suc n) zero = refl
idle-at (suc n) (suc j) = idle-at n j

most-tally : (tasks : List Task) → All Runnable tasks → (t : ℕ) → Most (t * 250000000) (tally tasks t)
unfolding tally
most-tally tasks p zero j = rw (idle-at (length tasks) j) (omega arith)
most-tally tasks p (suc t) j =
    omega (arith, give-keeps (add_due t tasks (tally tasks t)) j, most-due t (t * 250000000) tasks (tally tasks t) p (most-tally tasks p t) j)

pub most-short : (tasks : List Task) (t : ℕ) → All Runnable tasks → t ≤ 100000 → Most 25000000000000 (tally tasks t)
most-short tasks t p h j = omega (arith, most-tally tasks p t j)
