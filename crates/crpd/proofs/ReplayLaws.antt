-- A replay and the equation say the same: of tasks without jitter the first job of a task ends where the time first equals its demand under method 0. The machine's
-- state is the work left of jobs; what is left of the first job and of the tasks above, with the ticks run, is the demand.
use Rattle.std.proofs.Common.{◌≡◌, ℕ, zero, suc, ◌+◌, ◌-◌, ◌*◌, ◌/◌, ◌%◌, ◌≤◌, ◌<◌, Bool, true, false, cond, List, [], ◌∷◌, ◌++◌, length, take, get_or, replicate, sum, All, arith, refl, ap, sym, ◌∙◌, eqb, eqb-true, eq-eqb, ne_eqb, div-add-mod', mod-lt, add-zero, add-one, Some}
use Rattle.std.proofs.Math.Nat.{zero-mod}
use Rattle.std.proofs.lemmas.Bool.{eqb-false}
use Rattle.std.proofs.lemmas.List.Elements.{All-head, All-tail, All-get_or, All-from_get_or}
use Rattle.search.specs.declared.demand.Term.{Term}
use Rattle.search.specs.declared.demand.Response.TheVariants.{Within}
use Rattle.search.specs.Demand.{term_of, ceil, work_of, demand_of}
use Rattle.search.specs.Least.{first_of, least_of}
use Rattle.search.proofs.DemandLaws.{ceil-is, demand-none, demand-next, demand-same}
use Rattle.table.specs.declared.tasks.Task.{Task}
use Rattle.table.specs.Tasks.{blank, limit_of}
use Rattle.table.specs.declared.Table.{Table}
use Rattle.table.specs.Tables.{tasks_of, at}
use Rattle.table.specs.Accepted.{AcceptedTable}
use Rattle.analysis.specs.declared.costs.Single.TheVariants.{None as NoReloads}
use Rattle.analysis.specs.Costs.{reloads_with, term_at}
use Rattle.analysis.specs.Analysis.{response_of, numbered}
use Rattle.analysis.proofs.AnswerLaws.{plain-answer}
use Rattle.replay.specs.Replay.{with_job, release, run_job, run_highest, jobs_after, is_first_done, first_done_at, end_from, first_end}
use Rattle.replay.specs.Tally.{Runnable, due, work_at}
use Rattle.crpd.specs.Plain.{Plain}
use Rattle.replay.proofs.MachineLaws.{sum-cons, sum-snoc, sum-run, run-zero, run-suc}
use Rattle.replay.proofs.LoopLaws.{tasks-long, tasks-runnable}
use Rattle.crpd.specs.Meanings.{end_by}

-- a task that may be replayed, and that has no jitter
record Steady (task : Task) : Type 0 where
  runnable : Runnable task
  jitter : task.jitter.0 ≡ 0

-- what the equation sees of a task under method 0, and its demand
abbrev plain_term : Task → Term
plain_term task = term_of task.period.0 task.jitter.0 task.work.0

abbrev demand_at : List Task → ℕ → ℕ → ℕ
demand_at tasks i = demand_of (work_at tasks i) (λ j. plain_term (get_or tasks j blank)) i

-- the sum of g over some tasks
unfoldable total : (Task → ℕ) → List Task → ℕ
total g [] = 0
total g (task ∷ tasks) = g task + total g tasks

total-further : (g : Task → ℕ) (tasks : List Task) (i : ℕ) → i < length tasks → total g (take (suc i) tasks) ≡ total g (take i tasks) + g (get_or tasks i blank)
unfolding total
total-further g [] i h = absurd (omega arith)
total-further g (task ∷ tasks) zero h = omega arith
total-further g (task ∷ tasks) (suc i) h = omega (arith, total-further g tasks i (omega arith))

-- the work that the equation counts for a task in r ticks
abbrev asks : ℕ → Task → ℕ
asks r task = work_of r (plain_term task)

-- the equation's demand, as a sum over the tasks above
demand-total : (tasks : List Task) (own i r : ℕ) → i ≤ length tasks
    → demand_of own (λ j. plain_term (get_or tasks j blank)) i r
    ≡ own + total (asks r) (take i tasks)
unfolding total
demand-total tasks own zero r h = omega (arith, demand-none own (λ j. plain_term (get_or tasks j blank)) r)
demand-total tasks own (suc i) r h =
    omega (arith, demand-total tasks own i r (omega arith), total-further (asks r) tasks i (omega arith), rw add-one at (demand-next own (λ j. plain_term (get_or tasks j blank)) r i))

-- a tick releases what the equation counts for it
ceil-here : (x q t : ℕ) → 1 ≤ t → x ≤ q * t → q * t < x + t → ceil x t ≡ q
ceil-here x q t some h l = sym (ceil-is x q t some h l)

ceil-next : (t T c : ℕ) → 1 ≤ T → (b : Bool) → eqb (t % T) 0 ≡ b → ceil (suc t) T * c ≡ ceil t T * c + cond b c 0
ceil-next t T c h b e =
    let d = div-add-mod' t T in
    let l = mod-lt t h in
    rw (ceil-here (suc t) (t / T + 1) T h (omega arith) (omega arith)) (go b e)
  where
    go : (b : Bool) → eqb (t % T) 0 ≡ b → (t / T + 1) * c ≡ ceil t T * c + cond b c 0
    go true e =
        rw (ceil-here t (t / T) T h (omega (arith, eqb-true (t % T) 0 e, div-add-mod' t T)) (omega (arith, div-add-mod' t T))) (omega arith)
    go false e =
        rw (ceil-here t (t / T + 1) T h (omega (arith, div-add-mod' t T, mod-lt t h)) (omega (arith, eqb-false (t % T) 0 e, div-add-mod' t T)))
        (omega arith)

total-next : (t i : ℕ) (tasks : List Task) → All Steady tasks
    → total (asks (suc t)) (take i tasks) ≡ total (asks t) (take i tasks) + total (due t) (take i tasks)
unfolding total
total-next t zero tasks p = refl
total-next t (suc i) [] p = refl
total-next t (suc i) (task ∷ tasks) p =
    let steady = All-head Steady task tasks p in
    let e : asks (suc t) task ≡ asks t task + due t task =
    simp (steady.jitter, add-zero) (ceil-next t task.period.0 task.work.0 steady.runnable.period (eqb (t % task.period.0) 0) refl) in
    omega (arith, total-next t i tasks (All-tail Steady task tasks p))

total-none : (i : ℕ) (tasks : List Task) → All Steady tasks → total (asks 0) (take i tasks) ≡ 0
unfolding total
total-none zero tasks p = refl
total-none (suc i) [] p = refl
total-none (suc i) (task ∷ tasks) p =
    let steady = All-head Steady task tasks p in
    let j = steady.jitter in
    let some = steady.runnable.period in
    let e : ceil (0 + task.jitter.0) task.period.0 ≡ 0 = ceil-here (0 + task.jitter.0) 0 task.period.0 some (omega arith) (omega arith) in
    omega (arith, total-none i tasks (All-tail Steady task tasks p), ap (λ (n : ℕ). n * task.work.0) e)

-- the work left of the i highest tasks
above : ℕ → List (List ℕ) → ℕ
above i [] = 0
above zero (js ∷ jss) = 0
above (suc i) (js ∷ jss) = sum js + above i jss

-- the first job of the task at place i is released and has l ticks left, and it and the tasks above have d ticks left
abbrev First : ℕ → List (List ℕ) → ℕ → ℕ → Type 0
First i jss l d = (later : List ℕ) × (get_or jss i [] ≡ l ∷ later) × (above i jss + l ≡ d)

no-job : {l : ℕ} {js : List ℕ} → [] ≡ l ∷ js → ⊥
no-job e = let z : ◌≡◌ {A = ℕ} 0 1 = cc in omega arith

true-false : true ≡ false → ⊥
true-false e = let z : ◌≡◌ {A = ℕ} 0 1 = cc in omega arith

-- a release leaves the first job as it is
sum-job : (t : ℕ) (task : Task) (js : List ℕ) → sum (with_job t task js) ≡ sum js + due t task
sum-job t task js = go (eqb (t % task.period.0) 0)
  where
    go : (b : Bool) → sum (cond b (js ++ (task.work.0 ∷ [])) js) ≡ sum js + cond b task.work.0 0
    go true = sum-snoc js task.work.0
    go false = omega arith

job-behind : (t : ℕ) (task : Task) (l : ℕ) (js : List ℕ) → (later : List ℕ) × (with_job t task (l ∷ js) ≡ l ∷ later)
job-behind t task l js = go (eqb (t % task.period.0) 0)
  where
    go : (b : Bool) → (later : List ℕ) × (cond b ((l ∷ js) ++ (task.work.0 ∷ [])) (l ∷ js) ≡ l ∷ later)
    go true = (js ++ (task.work.0 ∷ []), refl)
    go false = (js, refl)

release-first : (t : ℕ) (tasks : List Task) (jss : List (List ℕ)) (i l d : ℕ) → i < length tasks → First i jss l d
    → First i (release t tasks jss) l (d + total (due t) (take i tasks))
unfolding release above total
release-first t [] jss i l d h f = absurd (omega arith)
release-first t (task ∷ tasks) [] i l d h f = absurd (no-job f.1)
release-first t (task ∷ tasks) (js ∷ jss) zero l d h f =
    let b = job-behind t task l f.0 in (b.0, ap (λ (x : List ℕ). with_job t task x) f.1 ∙ b.1, omega arith)
release-first t (task ∷ tasks) (js ∷ jss) (suc i) l d h f =
    let r = release-first t tasks jss i l (above i jss + l) (omega arith) (f.0, f.1, refl) in
    (r.0, r.1, omega (arith, sum-job t task js))

job-start : (task : Task) → with_job 0 task [] ≡ task.work.0 ∷ []
job-start task = ap {B = List ℕ} (λ (r : ℕ). cond (eqb r 0) (task.work.0 ∷ []) []) (zero-mod task.period.0)

release-start : (tasks : List Task) (i : ℕ) → i < length tasks
    → First i (release 0 tasks (replicate (length tasks) [])) (work_at tasks i) (work_at tasks i + total (due 0) (take i tasks))
unfolding release above total
release-start [] i h = absurd (omega arith)
release-start (task ∷ tasks) zero h = ([], job-start task, omega arith)
release-start (task ∷ tasks) (suc i) h =
    let r = release-start tasks i (omega arith) in (r.0, r.1, omega (arith, sum-job 0 task []))

-- a tick runs one unit of it or of a task above, and of it only where those above have none
abbrev Ran : ℕ → List (List ℕ) → ℕ → Type 0
Ran i jss d = (l : ℕ) × First i jss l d × (l ≡ 0 → d ≡ 0)

run-first : (jss : List (List ℕ)) (i l d : ℕ) → First i jss (suc l) (suc d) → Ran i (run_highest jss) d
unfolding above run_job
run-first [] i l d f = absurd (no-job f.1)
run-first (js ∷ jss) i l d f = go (sum js) refl i f (λ i. run-first jss i l d)
  where
    go : (x : ℕ) → sum js ≡ x → (i : ℕ) → First i (js ∷ jss) (suc l) (suc d)
        → ((i : ℕ) → First i jss (suc l) (suc d) → Ran i (run_highest jss) d) → Ran i (run_highest (js ∷ jss)) d
    go zero z zero f rest = absurd (omega (arith, ap {B = ℕ} sum f.1, sum-cons (suc l) f.0))
    go zero z (suc i) f rest =
        let r = rest i (f.0, f.1, omega arith) in
        rw (run-zero js jss z) (r.0, (r.1.0, r.1.1, omega arith), r.2)
    go (suc x) z zero f rest = rw (run-suc js jss x z) (l, (f.0, ap run_job f.1, omega arith), λ q. omega arith)
    go (suc x) z (suc i) f rest =
        rw (run-suc js jss x z) (suc l, (f.0, f.1, omega (arith, sum-run js x z)), λ q. absurd (omega arith))

-- what is left, with the ticks run, is what the equation counts; nothing is left when the first job ends
abbrev Backlog : List Task → ℕ → ℕ → Type 0
Backlog tasks i t = (d : ℕ) × Ran i (jobs_after tasks t) d × (t + d ≡ demand_at tasks i t)

no-jobs : (n i : ℕ) → ◌≡◌ {A = List ℕ} (get_or (replicate n []) i []) []
no-jobs zero i = refl
no-jobs (suc n) zero = refl
no-jobs (suc n) (suc i) = no-jobs n i

module _ (tasks : List Task) (i : ℕ) (here : i < length tasks) (plain : All Steady tasks) where
  demand-start : demand_at tasks i 0 ≡ work_at tasks i
  demand-start = omega (arith, demand-total tasks (work_at tasks i) i 0 (omega arith), total-none i tasks plain)

  demand-further : (t : ℕ) → demand_at tasks i (suc t) ≡ demand_at tasks i t + total (due t) (take i tasks)
  demand-further t =
      omega (arith, demand-total tasks (work_at tasks i) i (suc t) (omega arith), demand-total tasks (work_at tasks i) i t (omega arith), total-next t i tasks plain)

  tick : (t l d : ℕ) → First i (release t tasks (jobs_after tasks t)) (suc l) (suc d) → suc t + d ≡ demand_at tasks i (suc t) → Backlog tasks i (suc t)
  unfolding jobs_after
  tick t l d f e = (d, run-first (release t tasks (jobs_after tasks t)) i l d f, e)

  backlog-start : Backlog tasks i 1
  unfolding jobs_after
  backlog-start =
      let c = (All-get_or Steady tasks i blank here plain).runnable.some in
      let f = release-start tasks i here in
      let e : work_at tasks i ≡ suc (work_at tasks i - 1) = omega arith in
      tick 0 (work_at tasks i - 1) (work_at tasks i - 1 + total (due 0) (take i tasks))
      (f.0, f.1 ∙ ap (λ (l : ℕ). l ∷ f.0) e, omega arith) (omega (arith, demand-start, demand-further 0))

  -- the first job has ended exactly where the time equals its demand
  meets : (t : ℕ) → Backlog tasks i t → (eqb t (demand_at tasks i t) ≡ first_done_at tasks i t) × (first_done_at tasks i t ≡ false → Backlog tasks i (suc t))
  meets t b = go b.1.0 b.1.1 b.1.2
    where
      go : (l : ℕ) → First i (jobs_after tasks t) l b.0 → (l ≡ 0 → b.0 ≡ 0)
          → (eqb t (demand_at tasks i t) ≡ first_done_at tasks i t) × (first_done_at tasks i t ≡ false → Backlog tasks i (suc t))
      go zero f c =
          let e : first_done_at tasks i t ≡ true = ap is_first_done f.1 in
          (eq-eqb t (demand_at tasks i t) (omega (arith, c refl)) ∙ sym e, λ q. absurd (true-false (sym e ∙ q)))
      go (suc l) f c =
          let e : first_done_at tasks i t ≡ false = ap is_first_done f.1 in
          let r = release-first t tasks (jobs_after tasks t) i (suc l) b.0 here f in (
            ne_eqb t (demand_at tasks i t) (λ q. omega arith) ∙ sym e,
            λ q. tick t l (b.0 - 1 + total (due t) (take i tasks)) (r.0, r.1, omega arith) (omega (arith, demand-further t)),
          )

  -- so the replay and the equation, each walked up, stop together
  together : (s k : ℕ) → Backlog tasks i s → end_from tasks i s k ≡ end_by (first_of (demand_at tasks i) s k)
  unfolding end_from first_of
  together s zero b = refl
  together s (suc k) b = rw ((meets s b).0, end_by) (go (first_done_at tasks i s) (meets s b).1 (together (suc s) k))
    where
      go : (x : Bool) → (x ≡ false → Backlog tasks i (suc s))
          → (Backlog tasks i (suc s) → end_from tasks i (suc s) k ≡ end_by (first_of (demand_at tasks i) (suc s) k))
          → elim x [ true ↦ Some (record { 0 = s }) | false ↦ end_from tasks i (suc s) k ]
          ≡ end_by (elim x [ true ↦ Within (record { 0 = s }) | false ↦ first_of (demand_at tasks i) (suc s) k ])
      go true next rest = refl
      go false next rest = rest (next refl)

  replay-is-least : (limit : ℕ) → first_end tasks i limit ≡ end_by (least_of (demand_at tasks i) limit)
  unfolding first_end least_of end_from first_of jobs_after
  replay-is-least limit =
      let e : first_done_at tasks i 0 ≡ false = ap is_first_done (no-jobs (length tasks) i) in
      let c = (All-get_or Steady tasks i blank here plain).runnable.some in
      let q : eqb 0 (demand_at tasks i 0) ≡ false = ne_eqb 0 (demand_at tasks i 0) (λ z. omega (arith, demand-start)) in
      rw (e, q, end_from, end_by) (together 1 limit backlog-start)

-- ---- of a table

module _ (table : Table) (accepted : AcceptedTable table) (plain : Plain table) where
  steady : All Steady (tasks_of table)
  unfolding at
  steady =
      All-from_get_or Steady (tasks_of table) blank
      (λ k l. record { runnable = All-get_or Runnable (tasks_of table) k blank l (tasks-runnable table accepted); jitter = plain.jitter k (omega (arith, tasks-long table accepted)) })

  -- under method 0 each task above asks for its C
  term-is : (i j : ℕ) → term_at table NoReloads i j ≡ plain_term (get_or (tasks_of table) j blank)
  unfolding reloads_with at
  term-is i j = ap (λ (w : ℕ). term_of (at table j).period.0 (at table j).jitter.0 w) (omega arith)

  pub replay-is-response : (i : ℕ) → i < table.count → first_end (tasks_of table) i (at table i).deadline.0 ≡ end_by (response_of table (numbered 0) i)
  unfolding response_of at
  replay-is-response i held =
      let demand : demand_of (at table i).work.0 (term_at table NoReloads i) i ≡ demand_at (tasks_of table) i = demand-same _ _ _ i (λ j l. term-is i j) in
      let limit : limit_of (at table i) ≡ (at table i).deadline.0 = omega (arith, plain.jitter i held) in
      rw (plain-answer table NoReloads i plain.access, demand, limit)
      (replay-is-least (tasks_of table) i (omega (arith, held, tasks-long table accepted)) steady (at table i).deadline.0)
