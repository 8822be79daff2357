-- The model, 5 of 5: a system, and which runs it has.
use Rattle.std.specs.Prelude.{ℕ, ◌+◌, ◌*◌, ◌≤◌, ◌<◌, ◌≡◌, true, ◌&&◌}
use Rattle.runs.specs.Sums.{sum, one, count_from}
use Rattle.runs.specs.model.Jobs.{Task, Run, job, given, JobsKept}
use Rattle.runs.specs.model.Accesses.{Access, AccessesKept}
use Rattle.runs.specs.model.Schedule.{Scheduled}
use Rattle.runs.specs.model.Cache.{own, own_since, reloads, finds_first, reloads_of, waits_of}

-- `size` tasks and `many` accesses, on a processor with `sets` cache sets of `ways` ways each, where a reload takes at most `brt` ticks
pub record System : Type 0 where
  pub tasks : ℕ → Task
  pub size : ℕ
  pub accesses : ℕ → Access
  pub many : ℕ
  pub sets : ℕ
  pub ways : ℕ
  pub brt : ℕ

-- a run of the system. `evicts`: a task uses only its evicting cache sets. `waits_only`: a job waits only for reloads, at most `brt` ticks for each.
-- `useful`: in no tick T has it more useful blocks in a cache set than is promised of its task.
-- `lasts`: an access is over when its job has had the processor in it for its length, and `brt` ticks more for each reload in it.
-- `useful_in`: while it is on, it has in no tick T more useful blocks in a cache set than is promised of it
pub record Legal (s : System) (z : Run) : Type 0 where
  pub jobs : JobsKept s.tasks s.size z
  pub held : AccessesKept s.accesses s.many z
  pub scheduled : Scheduled s.size s.accesses z
  pub evicts : (t j n c : ℕ) → z.has t ≡ job j n → z.uses t c ≡ true → (s.tasks j).evicting c ≡ true
  pub waits_only : (j n t : ℕ) → j < s.size → waits_of z j n t ≤ s.brt * reloads_of s.ways z s.sets j n t
  pub useful : (j n c T t : ℕ) → j < s.size → c < s.sets → sum (λ v. one (finds_first s.ways z (own z j n c) j n T c v)) t ≤ (s.tasks j).useful c
  pub lasts : (u d k m : ℕ) → z.takes u ≡ true → z.has u ≡ job k m → z.on u (u + d) ≡ true
      → count_from (λ t. given k m (z.has t)) u d
      < (s.accesses (z.which u)).length + s.brt * sum (λ v. sum (λ c. one (reloads s.ways z (own_since z u k m c) k m c (u + v))) s.sets) d
  pub useful_in : (u k m c T d : ℕ) → z.takes u ≡ true → z.has u ≡ job k m → c < s.sets
      → sum (λ v. one (z.on u (u + v) && finds_first s.ways z (own_since z u k m c) k m T c (u + v))) d ≤ (s.accesses (z.which u)).useful c
