-- The tally, as the code's loops change it, and the walk up to the end of the first job.
use Rattle.std.proofs.Common.{◌≡◌, ℕ, zero, suc, ◌+◌, ◌-◌, ◌≤◌, ◌<◌, List, [], ◌∷◌, length, take, get_or, set, replicate, position, Option, Some, None, All, arith, refl, ap, sym, ◌∙◌, add-one, get_or-take, le_refl, leb, le-leb, le-ltb, lt-ltb}
use Rattle.std.proofs.Math.Decide.{dec_lt}
use Rattle.std.proofs.lemmas.Bool.{lt-leb}
use Rattle.std.proofs.lemmas.List.{get_or_past}
use Rattle.std.proofs.lemmas.List.Elements.{All-get_or, All-from_get_or}
use Rattle.table.specs.declared.tasks.Task.{Task}
use Rattle.table.specs.Tasks.{blank}
use Rattle.table.specs.declared.Table.{Table}
use Rattle.table.specs.Tables.{tasks_of, at}
use Rattle.table.specs.Accepted.{AcceptedTable}
use Rattle.replay.specs.declared.Work.{Work}
use Rattle.replay.specs.Replay.{runs_at, first_done_at, end_from, first_end}
use Rattle.replay.specs.Tally.{Runnable, idle, with_due, add_due, is_busy, give, tally, done_at, work_at, Most, Ticking}
use Rattle.replay.proofs.TallyLaws.{give-zero, give-suc, ended_is, position-yes, position-no, busy_is}

-- the first j tasks have released their jobs of tick t
unfoldable pub release_to : ℕ → ℕ → List Task → List Work → List Work
release_to t zero tasks ws = ws
release_to t (suc j) [] ws = ws
release_to t (suc j) (task ∷ tasks) [] = []
release_to t (suc j) (task ∷ tasks) (w ∷ ws) = with_due t task w ∷ release_to t j tasks ws

release_to-at : (t j : ℕ) (tasks : List Task) (ws : List Work) → get_or (release_to t j tasks ws) j idle ≡ get_or ws j idle
unfolding release_to
release_to-at t zero tasks ws = refl
release_to-at t (suc j) [] ws = refl
release_to-at t (suc j) (task ∷ tasks) [] = refl
release_to-at t (suc j) (task ∷ tasks) (w ∷ ws) = release_to-at t j tasks ws

release_to-next : (t j : ℕ) (tasks : List Task) (ws : List Work) → j < length tasks
    → set (release_to t j tasks ws) j (with_due t (get_or tasks j blank) (get_or ws j idle)) ≡ release_to t (suc j) tasks ws
unfolding release_to
release_to-next t j [] ws h = absurd (omega arith)
release_to-next t zero (task ∷ tasks) [] h = refl
release_to-next t zero (task ∷ tasks) (w ∷ ws) h = refl
release_to-next t (suc j) (task ∷ tasks) [] h = refl
release_to-next t (suc j) (task ∷ tasks) (w ∷ ws) h = ap (λ (l : List Work). with_due t task w ∷ l) (release_to-next t j tasks ws (omega arith))

release_to-all : (t n : ℕ) (tasks : List Task) (ws : List Work) → n ≡ length tasks → take n (release_to t n tasks ws) ≡ add_due t tasks (take n ws)
unfolding release_to add_due
release_to-all t zero [] ws h = refl
release_to-all t zero (task ∷ tasks) ws h = absurd (omega arith)
release_to-all t (suc n) [] ws h = absurd (omega arith)
release_to-all t (suc n) (task ∷ tasks) [] h = refl
release_to-all t (suc n) (task ∷ tasks) (w ∷ ws) h = ap (λ (l : List Work). with_due t task w ∷ l) (release_to-all t n tasks ws (omega arith))

-- one turn of the loop, and its end
module _ (t j : ℕ) (tasks : List Task) (ws vs : List Work) (passed : vs ≡ release_to t j tasks ws) where
  pub release-here : get_or vs j idle ≡ get_or ws j idle
  release-here = rw passed (release_to-at t j tasks ws)

  pub release-turn : j < length tasks → (w : Work) → w ≡ with_due t (get_or tasks j blank) (get_or vs j idle) → set vs j w ≡ release_to t (j + 1) tasks ws
  release-turn h w e = rw (e, release-here, passed, add-one) (release_to-next t j tasks ws h)

  pub release-end : j ≡ length tasks → take j vs ≡ add_due t tasks (take j ws)
  release-end h = rw passed (release_to-all t j tasks ws h)

-- the first j tasks have no work
abbrev pub Quiet : ℕ → List Work → Type 0
Quiet j ws = (k : ℕ) → k < j → (get_or ws k idle).left ≡ 0

run-found : (n j : ℕ) (ws : List Work) (l : ℕ) → Quiet j ws → j < n → (get_or ws j idle).left ≡ suc l
    → give (take n ws) ≡ take n (set ws j (record { left = l; done = (get_or ws j idle).done + 1 }))
run-found zero j ws l q h e = absurd (omega arith)
run-found (suc n) zero [] l q h e = absurd (omega arith)
run-found (suc n) (suc j) [] l q h e = absurd (omega arith)
run-found (suc n) zero (w ∷ ws) l q h e = give-suc w (take n ws) l e
run-found (suc n) (suc j) (w ∷ ws) l q h e =
    rw (give-zero w (take n ws) (q 0 (omega arith)))
    (ap (λ (l : List Work). w ∷ l) (run-found n j ws l (λ k p. q (suc k) (omega arith)) (omega arith) e))

pub run-here : (n j : ℕ) (ws : List Work) → Quiet j ws → j < n → 0 < (get_or ws j idle).left
    → take n (set ws j (record { left = (get_or ws j idle).left - 1; done = (get_or ws j idle).done + 1 })) ≡ give (take n ws)
run-here n j ws q h p = sym (run-found n j ws ((get_or ws j idle).left - 1) q h (omega arith))

pub run_none : (n : ℕ) (ws : List Work) → Quiet n ws → give (take n ws) ≡ take n ws
unfolding give
run_none zero ws q = refl
run_none (suc n) [] q = refl
run_none (suc n) (w ∷ ws) q =
    rw (give-zero w (take n ws) (q 0 (omega arith))) (ap (λ (l : List Work). w ∷ l) (run_none n ws (λ k p. q (suc k) (omega arith))))

-- and which one runs
pub busy-here : (n j : ℕ) (ws : List Work) → Quiet j ws → j < n → 0 < (get_or ws j idle).left → Some j ≡ position is_busy (take n ws)
busy-here zero j ws q h e = absurd (omega arith)
busy-here (suc n) zero [] q h e = absurd (omega arith)
busy-here (suc n) (suc j) [] q h e = absurd (omega arith)
busy-here (suc n) zero (w ∷ ws) q h e = sym (position-yes is_busy w (take n ws) (lt-ltb 0 w.left e))
busy-here (suc n) (suc j) (w ∷ ws) q h e =
    rw (position-no is_busy w (take n ws) (le-ltb 0 w.left (omega (arith, q 0 (omega arith)))), ← (busy-here n j ws (λ k p. q (suc k) (omega arith)) (omega arith) e)) (ap Some (omega arith))

pub busy_none : (n : ℕ) (ws : List Work) → Quiet n ws → None ≡ position is_busy (take n ws)
busy_none zero ws q = refl
busy_none (suc n) [] q = refl
busy_none (suc n) (w ∷ ws) q =
    rw (position-no is_busy w (take n ws) (le-ltb 0 w.left (omega (arith, q 0 (omega arith)))), ← (busy_none n ws (λ k p. q (suc k) (omega arith)))) refl

-- the code's list, and the part of it that the specification has
pub most-at : (b n j : ℕ) (ws : List Work) → Most b (take n ws) → j < n → (get_or ws j idle).left + (get_or ws j idle).done ≤ b
most-at b n j ws m h = rw (get_or-take n ws j idle h) at (m j)

take-idle : (n m : ℕ) → n ≤ m → take n (replicate m idle) ≡ replicate n idle
take-idle zero m h = refl
take-idle (suc n) zero h = absurd (omega arith)
take-idle (suc n) (suc m) h = ap (λ (l : List Work). idle ∷ l) (take-idle n m (omega arith))

pub tally-none : (tasks : List Task) → length tasks ≤ 32 → take (length tasks) (replicate 32 idle) ≡ tally tasks 0
unfolding tally
tally-none tasks h = take-idle (length tasks) 32 h

pub tally-next : (tasks : List Task) (t : ℕ) (ws vs us : List Work)
    → us ≡ give vs → vs ≡ add_due t tasks ws → ws ≡ tally tasks t → us ≡ tally tasks (t + 1)
unfolding tally
tally-next tasks t ws vs us p q e = rw (add-one, p, q, e)

pub tick-runs : (tasks : List Task) (t : ℕ) (ws vs : List Work) (r : Option ℕ)
    → r ≡ position is_busy vs → vs ≡ add_due t tasks ws → ws ≡ tally tasks t → r ≡ runs_at tasks t
tick-runs tasks t ws vs r p q e = rw (q, e) at p ∙ busy_is tasks t

take-short : {X : Type 0} (n : ℕ) (xs : List X) → length (take n xs) ≤ n
take-short zero xs = omega arith
take-short (suc n) [] = omega arith
take-short (suc n) (x ∷ xs) = omega (arith, take-short n xs)

-- the tasks of an accepted table
module _ (table : Table) (accepted : AcceptedTable table) where
  -- each has work to do, so there are as many as the table counts
  pub tasks-long : length (tasks_of table) ≡ table.count
  unfolding at
  tasks-long = elim (dec_lt (length (tasks_of table)) table.count) [
    | yes l ↦
        (let none : (at table (length (tasks_of table))).work.0 ≡ 0 = ap (λ (t : Task). t.work.0) (get_or_past (tasks_of table) (length (tasks_of table)) blank (le_refl _)) in
        absurd (omega (arith, none, (accepted.tasks (length (tasks_of table)) l).work.0)))
    | no l ↦ omega (arith, take-short table.count table.tasks)
  ]

  pub tasks-runnable : All Runnable (tasks_of table)
  unfolding at
  tasks-runnable =
      All-from_get_or Runnable (tasks_of table) blank
      (λ i l. let task = accepted.tasks i (omega (arith, tasks-long)) in record { period = task.period.0; some = task.work.0; most = task.work.1 })

  -- so a tick of them may follow
  pub may-tick : (tasks : List Task) (works : List Work) (t : ℕ) → tasks ≡ tasks_of table → t ≤ 100000 → take (length tasks) works ≡ tally tasks t → Ticking tasks works t
  may-tick tasks works t e near tallied =
      record { few = omega (arith, ap length e, tasks-long, accepted.few); runnable = rw e tasks-runnable; near = near; tallied = tallied }

-- the walk has come to s
abbrev pub Walked : List Task → ℕ → ℕ → ℕ → Type 0
Walked tasks i limit s = end_from tasks i s (limit + 1 - s) ≡ first_end tasks i limit

module _ (tasks : List Task) (i limit : ℕ) where
  pub walk_start : Walked tasks i limit 0
  unfolding first_end
  walk_start = ap (λ (k : ℕ). end_from tasks i 0 k) (omega arith)

  pub walk-past : (s : ℕ) → Walked tasks i limit s → limit < s → None ≡ first_end tasks i limit
  unfolding end_from
  walk-past s on h = let e : limit + 1 - s ≡ 0 = omega arith in rw e at on

module _ (i limit s : ℕ) (tasks : List Task) (ws : List Work) (there : i < length tasks) (runnable : All Runnable tasks)
    (state : take (length tasks) ws ≡ tally tasks s) (on : Walked tasks i limit s) (h : s ≤ limit) where
  here : end_from tasks i s (suc (limit - s)) ≡ first_end tasks i limit
  here = let e : limit + 1 - s ≡ suc (limit - s) = omega arith in rw e at on

  -- the code's test
  tested : first_done_at tasks i s ≡ leb (work_at tasks i) (get_or ws i idle).done
  tested =
      let d : done_at tasks i s ≡ (get_or ws i idle).done = ap (λ (w : Work). w.done) (rw state at (get_or-take (length tasks) ws i idle there)) in
      ended_is tasks i s there (All-get_or Runnable tasks i blank there runnable).some
      ∙ ap (λ (y : ℕ). leb (work_at tasks i) y) d

  pub walk_ends : work_at tasks i ≤ (get_or ws i idle).done → Some (record { 0 = s }) ≡ first_end tasks i limit
  unfolding end_from
  walk_ends p = rw (tested ∙ le-leb (work_at tasks i) (get_or ws i idle).done p, end_from) at here

  pub walk-on : (get_or ws i idle).done < work_at tasks i → Walked tasks i limit (s + 1)
  unfolding end_from
  walk-on p =
      let e : limit + 1 - (s + 1) ≡ limit - s = omega arith in
      rw (e, add-one) (rw (tested ∙ lt-leb (work_at tasks i) (get_or ws i idle).done p, end_from) at here)
