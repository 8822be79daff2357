-- What the functions of the crate promise: laws of every run of every system.
use Rattle.std.specs.Prelude.{ℕ, ◌+◌, ◌≤◌, ◌<◌, ◌≡◌, Bool, true, false, ◌&&◌, Option, List, [], ◌∷◌, leb, ltb}
use Rattle.std.specs.declared.option.Option.TheVariants.{None, Some}
use Rattle.runs.specs.declared.Held.{Held}
use Rattle.runs.specs.Sums.{sum, one}
use Rattle.runs.specs.model.Jobs.{Slot, idle, Run, job, given, Complete, Constrained}
use Rattle.runs.specs.model.Accesses.{Holding}
use Rattle.runs.specs.model.Cache.{present, reloads}
use Rattle.runs.specs.model.Legal.{System, Legal}
use Rattle.runs.specs.machine.Programs.{Programs, ProgramsKept}
use Rattle.runs.specs.machine.Turns.{Entry, who, state_at, machine}
use Rattle.runs.specs.Equation.{used_above, CanBlock}
use Rattle.runs.specs.Theorem.{AnswersInTime}

-- a job that is released at this time, of a task whose response time is R, has ended by then
abbrev pub EndsBy : ℕ → ℕ → ℕ → Type 0
EndsBy release R end =
    (s : System) (i : ℕ) → AnswersInTime s i R → (z : Run) → Legal s z → (n : ℕ) → z.released i n ≡ release → Complete z i n end

-- the tick t is one of the x ticks from a on
abbrev pub inside : ℕ → ℕ → ℕ → Bool
inside a x t = leb a t && ltb t (a + x)

-- of a task with this period and jitter at most so many jobs are released in so many ticks on end
abbrev pub ReleasesAtMost : ℕ → ℕ → ℕ → ℕ → Type 0
ReleasesAtMost time period jitter most =
    (s : System) (z : Run) → Legal s z → (j : ℕ) → j < s.size → (s.tasks j).period ≡ period → (s.tasks j).jitter ≡ jitter
    → (a m : ℕ) → sum (λ n. one (inside a time (z.released j n))) m ≤ most

-- where a job of k, not below i, is overtaken by one of j, the test says so
abbrev pub OvertakenJob : ℕ → ℕ → ℕ → Bool → Type 0
OvertakenJob k j i may =
    (s : System) → ((p : ℕ) → p < s.size → Constrained (s.tasks p)) → (z : Run) → Legal s z → k ≤ i → (m l from v t : ℕ) → z.has from ≡ job k m → z.has t ≡ job k m
    → from ≤ v → v ≤ t → z.has v ≡ job j l → given k m (z.has v) ≡ false → may ≡ true

-- and where a job of k is overtaken by one of j in an access that may block i
abbrev pub OvertakenAccess : ℕ → ℕ → ℕ → ℕ → Bool → Type 0
OvertakenAccess k j i ceiling may =
    (s : System) (z : Run) → Legal s z → (u t m l : ℕ) → Holding z u t → z.has u ≡ job k m → CanBlock (s.accesses (z.which u)) i
    → (s.accesses (z.which u)).ceiling ≡ ceiling → z.has t ≡ job j l → given k m (z.has t) ≡ false → may ≡ true

-- where in some ticks no task below `lowest` has the processor, and a job of k uses a cache set in one of them, the test says so, and the set is one that
-- `lowest` or a task above uses
abbrev pub TakenBy : ℕ → ℕ → Bool → Type 0
TakenBy lowest k may =
    (s : System) (z : Run) → Legal s z → (left t : ℕ) → ((v j l : ℕ) → left < v → v < t → z.has v ≡ job j l → j ≤ lowest)
    → (v m c : ℕ) → left < v → v < t → z.has v ≡ job k m → z.uses v c ≡ true → (may ≡ true) × (used_above s lowest c ≡ true)

-- a use of a cache set is a reload, by whether the block would be there alone and whether it is there
abbrev pub IsReload : Bool → Bool → Bool → Type 0
IsReload alone found must =
    (W : ℕ) (z : Run) (on : ℕ → Bool) (j n c t : ℕ) → given j n (z.has t) ≡ true → z.uses t c ≡ true → present W on (λ v. z.block v c) t (z.block t c) ≡ alone
    → present W (λ v. z.uses v c) (λ v. z.block v c) t (z.block t c) ≡ found → reloads W z on j n c t ≡ must

-- the rule of the stack resource policy: whoever is pending first has the processor if its task is above the ceiling of the access that is held, and else
-- the task that holds it has it
abbrev pub GoesByCeiling : Option ℕ → Option Held → Option ℕ → Type 0
GoesByCeiling None None to = to ≡ None
GoesByCeiling (Some j) None to = to ≡ Some j
GoesByCeiling None (Some h) to = to ≡ Some h.task
GoesByCeiling (Some j) (Some h) to = (j < h.ceiling → to ≡ Some j) × (h.ceiling ≤ j → to ≡ Some h.task)

-- which task a tick is given to, and which access is on top of a stack
abbrev pub task_in : Slot → Option ℕ
task_in idle = None
task_in (job j n) = Some j

abbrev pub top_of : List Entry → Option Held
top_of [] = None
top_of (e ∷ r) = Some (record { task = e.task; ceiling = e.ceiling })

-- the machine makes a legal run of any programs that the system allows; and in each tick in which this task is the first that has a job pending, and this
-- access is on top of its stack, it gives the processor so
unfoldable pub MachineGoes : Option ℕ → Option Held → Option ℕ → Type 0
MachineGoes first held to =
    (s : System) → ((p : ℕ) → p < s.size → Constrained (s.tasks p)) → (w : Programs) → ProgramsKept s w → Legal s (machine s w)
    × ((t : ℕ) → task_in (who w s.size t (state_at s w t)) ≡ first → top_of (state_at s w t).stack ≡ held → task_in ((machine s w).has t) ≡ to)
