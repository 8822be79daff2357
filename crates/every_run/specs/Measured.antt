-- A run as it was measured: whoever blocks is pre-empted while it holds the device. The table is examples/preempted-blocker.table.
use Rattle.std.specs.Prelude.{ℕ, zero, suc, ◌+◌, ◌*◌, ◌≤◌, ◌≡◌, Bool, true, false, ◌&&◌, List, ◌++◌, codes, Result, Ok, eqb}
use Rattle.cache.specs.declared.sets.CacheSet.{CacheSet}
use Rattle.cache.specs.declared.useful.Form.TheVariants.{Hex}
use Rattle.cache.specs.Levels.{marked}
use Rattle.search.specs.declared.demand.Response.{Response}
use Rattle.search.specs.declared.demand.Response.TheVariants.{Within}
use Rattle.texts.specs.declared.refusals.Refusal.{Refusal}
use Rattle.table.specs.declared.tasks.Task.{Task}
use Rattle.table.specs.Tasks.{pack_name}
use Rattle.table.specs.declared.Table.{Table}
use Rattle.table.specs.Tables.{new_table, with_task, with_access}
use Rattle.crpd.specs.Operations.{answer_to}
use Rattle.crpd.specs.Meanings.{ReadsAs}
use Rattle.runs.specs.model.Jobs.{Run, served}
use Rattle.runs.specs.model.Legal.{Legal}
use Rattle.runs.specs.machine.Programs.{Programs}
use Rattle.runs.specs.machine.Turns.{machine}
use Rattle.every_run.specs.TableRuns.{system_of}

-- the text, by the marks of its access: `1`; and `0`, with which the access has nothing to reload and is no more than a blocking time of its length
abbrev pub blocker_text : List ℕ → List ℕ
blocker_text marks =
    codes "K\t4\t2\n"
    ++ codes "T\ta\t1\t20\t20\t0\t0\t0\t1\n"
    ++ codes "T\tb\t1\t20\t20\t0\t0\t0\t0\n"
    ++ codes "T\tc\t3\t30\t30\t0\t0\t1\t1\n"
    ++ codes "A\tc\tb\t3\t" ++ marks ++ codes "\n"

-- its table
abbrev set_word : ℕ → CacheSet
set_word w = record { w0 = w; w1 = 0; w2 = 0; w3 = 0 }

abbrev blocker_task : List ℕ → ℕ → ℕ → ℕ → ℕ → Task
blocker_task name c t u e = record {
  name = pack_name name;
  work = record { 0 = c };
  period = record { 0 = t };
  deadline = record { 0 = t };
  jitter = record { 0 = 0 };
  ucb = marked (set_word u);
  ecb = set_word e;
}

abbrev pub blocker_table : Table
blocker_table =
    with_access
    (with_task
    (with_task (with_task (new_table (record { sets = 4; brt = record { 0 = 2 }; form = Hex })) (blocker_task (codes "a") 1 20 0 1)) (blocker_task (codes "b") 1 20 0 0))
    (blocker_task (codes "c") 3 30 1 1))
    (record { task = 2; ceiling = 1; lasts = record { 0 = 3 }; ucb = marked (set_word 1) })

-- the work of each task
abbrev blocker_needs : ℕ → ℕ
blocker_needs zero = 1
blocker_needs (suc zero) = 1
blocker_needs (suc (suc j)) = 3

-- a and b are released at tick 1, c at tick 0, and each again after its period
abbrev blocker_releases : ℕ → ℕ → ℕ
blocker_releases zero n = 1 + n * 20
blocker_releases (suc zero) n = 1 + n * 20
blocker_releases (suc (suc j)) n = n * 30

-- a and c use a block of their own in cache set 0 with each tick of work. c takes the access with its first, and holds it to its end
abbrev blocker_uses : ℕ → ℕ → Bool
blocker_uses zero zero = true
blocker_uses zero (suc p) = false
blocker_uses (suc zero) p = false
blocker_uses (suc (suc zero)) zero = true
blocker_uses (suc (suc zero)) (suc zero) = true
blocker_uses (suc (suc zero)) (suc (suc zero)) = true
blocker_uses (suc (suc zero)) (suc (suc (suc p))) = false
blocker_uses (suc (suc (suc j))) p = false

abbrev only_in_set_0 : Bool → ℕ → Bool
only_in_set_0 b zero = b
only_in_set_0 b (suc c) = false

abbrev pub blocker_programs : Programs
blocker_programs = record {
  arrives = blocker_releases;
  released = blocker_releases;
  needs = λ j n. blocker_needs j;
  program = λ j n p c. only_in_set_0 (blocker_uses j p) c;
  blocks = λ j n p c. j;
  enters = λ j n p. eqb j 2 && eqb p 0;
  calls = λ j n p. 0;
  leaves = λ j n p. 3;
}

abbrev pub measured_run : Run
measured_run = machine (system_of blocker_table 2) blocker_programs

abbrev within : ℕ → Result Response Refusal
within R = Ok (Within (record { 0 = R }))

-- c works in tick 0 and takes the access; a pre-empts it in tick 1 and uses its cache set; c works in tick 2, waits for the reload in 3 and 4, and works in
-- 5. Only then b runs, in tick 6: it was released at 1, and has taken 6 ticks. The access's length alone, as a blocking time, has the answer 5 under the methods
-- 2 to 5, and the access with its marks has 7. (Method 1 looks at no marks, and has 7 in both)
pub record AboveTheLengthAlone : Type 0 where
  pub reads : ReadsAs (blocker_text (codes "1")) blocker_table
  pub length-alone : (m : ℕ) → 2 ≤ m → m ≤ 5 → answer_to (blocker_text (codes "0")) m 1 ≡ within 5
  pub answers : (m : ℕ) → 1 ≤ m → m ≤ 5 → answer_to (blocker_text (codes "1")) m 1 ≡ within 7
  pub legal : Legal (system_of blocker_table blocker_table.brt.0) measured_run
  pub released : measured_run.released 1 0 ≡ 1
  pub unfinished : served measured_run 1 0 (1 + 5) ≡ 0
  pub finished : served measured_run 1 0 (1 + 6) ≡ 1
