-- The machine, 3 of 3. The accesses that are on form a stack, the last taken on top. In each tick the first job, of the first task, that is pending
-- has the processor if its task is above the ceiling on top of the stack, and else the job on top has it. It works, and uses the blocks that its
-- program uses there; for each that it would have found alone and does not find, it waits `brt` ticks before it works on.
use Rattle.std.specs.Prelude.{ℕ, zero, suc, ◌+◌, ◌-◌, ◌*◌, Bool, true, false, ◌&&◌, ◌||◌, not, List, [], ◌∷◌, eqb, ltb}
use Rattle.runs.specs.Sums.{sum, one}
use Rattle.runs.specs.model.Jobs.{Slot, idle, job, Run, given}
use Rattle.runs.specs.model.Cache.{is_in, loaded}
use Rattle.runs.specs.model.Legal.{System}
use Rattle.runs.specs.machine.Chooser.{first_task, ready_at}
use Rattle.runs.specs.machine.Programs.{Programs}

-- an access that is on: the tick in which it was taken, the job, the ceiling, and the work at which it ends
pub record Entry : Type 0 where
  pub tag : ℕ
  pub task : ℕ
  pub index : ℕ
  pub ceiling : ℕ
  pub end : ℕ

-- what each job has worked, and has to wait; what each cache set holds, and what it would hold if the job were alone; and the accesses that are on
pub record State : Type 0 where
  pub done : ℕ → ℕ → ℕ
  pub debt : ℕ → ℕ → ℕ
  pub held : ℕ → List ℕ
  pub alone : ℕ → ℕ → ℕ → List ℕ
  pub stack : List Entry

abbrev pub at_rest : State
at_rest = record { done = λ j n. 0; debt = λ j n. 0; held = λ c. []; alone = λ j n c. []; stack = [] }

-- ---- who has the processor in tick t

abbrev pub who : Programs → ℕ → ℕ → State → Slot
who w size t s = first_task (ready_at w.released w.needs t s.done) (suc t) size

abbrev pub pick : Slot → Entry → Slot
pick idle e = job e.task e.index
pick (job k m) e = elim (ltb k e.ceiling) [ true ↦ job k m | false ↦ job e.task e.index ]

abbrev pub choose : Slot → List Entry → Slot
choose y [] = y
choose y (e ∷ r) = pick y e

abbrev pub goes_to : Programs → ℕ → ℕ → State → Slot
goes_to w size t s = choose (who w size t s) s.stack

-- ---- what it does: whether it waits, which cache sets it uses, which block, and what it reloads

abbrev pub waits_now : State → Slot → Bool
waits_now s idle = false
waits_now s (job j n) = ltb 0 (s.debt j n)

abbrev pub uses_now : Programs → State → Slot → ℕ → Bool
uses_now w s idle c = false
uses_now w s (job j n) c = not (ltb 0 (s.debt j n)) && w.program j n (s.done j n) c

abbrev pub block_now : Programs → State → Slot → ℕ → ℕ
block_now w s idle c = 0
block_now w s (job j n) c = w.blocks j n (s.done j n) c

abbrev pub reloads_now : Programs → State → Slot → ℕ → ℕ → ℕ → Bool
reloads_now w s y j n c =
    given j n y && ((uses_now w s y c && is_in (block_now w s y c) (s.alone j n c)) && not (is_in (block_now w s y c) (s.held c)))

-- ---- whether it takes an access, and which

-- the task is above the ceiling on top
abbrev pub clear : ℕ → List Entry → Bool
clear k [] = true
clear k (e ∷ r) = ltb k e.ceiling

abbrev pub takes_now : Programs → State → Slot → Bool
takes_now w s idle = false
takes_now w s (job k m) = clear k s.stack && (not (ltb 0 (s.debt k m)) && w.enters k m (s.done k m))

abbrev pub calls_now : Programs → State → Slot → ℕ
calls_now w s idle = 0
calls_now w s (job k m) = w.calls k m (s.done k m)

abbrev pub entry_of : System → Programs → ℕ → State → Slot → Entry
entry_of y w t s idle = record { tag = t; task = 0; index = 0; ceiling = 0; end = 0 }
entry_of y w t s (job k m) = record {
  tag = t;
  task = k;
  index = m;
  ceiling = (y.accesses (w.calls k m (s.done k m))).ceiling;
  end = w.leaves k m (s.done k m);
}

abbrev pub holds : ℕ → List Entry → Bool
holds u [] = false
holds u (e ∷ r) = eqb e.tag u || holds u r

abbrev pub push_entry : System → Programs → ℕ → State → Slot → List Entry
push_entry y w t s x = elim (takes_now w s x) [ true ↦ entry_of y w t s x ∷ s.stack | false ↦ s.stack ]

-- an access on top that has ended is taken off
abbrev pub pop_entry : (ℕ → ℕ → ℕ) → List Entry → List Entry
pop_entry done [] = []
pop_entry done (e ∷ r) = elim (ltb (done e.task e.index) e.end) [ true ↦ e ∷ r | false ↦ r ]

-- ---- tick t, given to x

abbrev pub done_by : State → Slot → ℕ → ℕ → ℕ
done_by s x j n = s.done j n + one (given j n (elim (waits_now s x) [ true ↦ idle | false ↦ x ]))

abbrev pub turned : System → Programs → ℕ → State → Slot → State
turned y w t s x = record {
  done = done_by s x;
  debt = λ j n. s.debt j n + y.brt * sum (λ c. one (reloads_now w s x j n c)) y.sets - one (waits_now s x && given j n x);
  held = λ c. elim (uses_now w s x c) [ true ↦ loaded y.ways (block_now w s x c) (s.held c) | false ↦ s.held c ];
  alone = λ j n c. elim (uses_now w s x c && given j n x) [ true ↦ loaded y.ways (block_now w s x c) (s.alone j n c) | false ↦ s.alone j n c ];
  stack = pop_entry (done_by s x) (push_entry y w t s x);
}

unfoldable pub state_at : System → Programs → ℕ → State
state_at y w zero = at_rest
state_at y w (suc t) = turned y w t (state_at y w t) (goes_to w y.size t (state_at y w t))

-- what happens on it
abbrev pub machine : System → Programs → Run
machine y w = record {
  arrives = w.arrives;
  released = w.released;
  needs = w.needs;
  has = λ t. goes_to w y.size t (state_at y w t);
  waits = λ t. waits_now (state_at y w t) (goes_to w y.size t (state_at y w t));
  uses = λ t c. uses_now w (state_at y w t) (goes_to w y.size t (state_at y w t)) c;
  block = λ t c. block_now w (state_at y w t) (goes_to w y.size t (state_at y w t)) c;
  takes = λ t. takes_now w (state_at y w t) (goes_to w y.size t (state_at y w t));
  which = λ t. calls_now w (state_at y w t) (goes_to w y.size t (state_at y w t));
  on = λ u t. eqb u t || holds u (state_at y w t).stack;
}
