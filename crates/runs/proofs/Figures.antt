-- Worked figures: antt runs the machine, and works out the equation.
use Prim.Native.Nat.{ℕ, zero, suc, ◌+◌, ◌*◌}
use mathlib.Core.Path.{◌≡◌, refl}
use mathlib.Core.Bool.{Bool, true, false, ◌||◌}
use mathlib.Core.List.{[], ◌∷◌}
use lib.Dec.{eqb}
use Rattle.search.specs.Positions.{run, fold_by}
use Rattle.search.specs.Demand.{demand_of}
use Rattle.runs.specs.Sums.{sum}
use Rattle.runs.specs.model.Jobs.{Task, served}
use Rattle.runs.specs.model.Accesses.{Access}
use Rattle.runs.specs.model.Cache.{is_in, without, content_at, used_since, reloads_of, waits_of}
use Rattle.runs.specs.model.Legal.{System}
use Rattle.runs.specs.machine.Chooser.{first_job, first_task}
use Rattle.runs.specs.machine.Programs.{Programs}
use Rattle.runs.specs.machine.Turns.{state_at, machine}
use Rattle.runs.specs.Equation.{any, largest, by_ucb_union, charge, term_charged}

abbrev pub task : ℕ → ℕ → (ℕ → ℕ) → (ℕ → Bool) → Task
task period cost useful evicting = record { period = period; jitter = 0; cost = cost; deadline = period; useful = useful; evicting = evicting }

abbrev no_access : ℕ → Access
no_access q = record { task = 0; ceiling = 0; length = 0; useful = λ c. 0 }

-- the demand of the task at 1 under a count, with no access
abbrev demand_bare : System → ℕ → ℕ
demand_bare s r = demand_of (s.tasks 1).cost (term_charged s (λ j. charge s (λ c. 0) by_ucb_union 1 j)) 1 r

-- ---- without a reload: a above with C 2 and T 5, b below with C 3 and T 8, both from tick 0 on. The equation has the response 5 for b, and its
-- first job takes 5 ticks and no fewer: the bound is reached

abbrev plain : System
plain = record {
  tasks = λ j. elim j [ zero ↦ task 5 2 (λ c. 0) (λ c. false) | suc k ↦ task 8 3 (λ c. 0) (λ c. false) ];
  size = 2;
  accesses = no_access;
  many = 0;
  sets = 1;
  ways = 1;
  brt = 2;
}

abbrev plain_jobs : Programs
plain_jobs = record {
  arrives = λ j n. elim j [ zero ↦ n * 5 | suc k ↦ n * 8 ];
  released = λ j n. elim j [ zero ↦ n * 5 | suc k ↦ n * 8 ];
  needs = λ j n. elim j [ zero ↦ 2 | suc k ↦ 3 ];
  program = λ j n p c. false;
  blocks = λ j n p c. 0;
  enters = λ j n p. false;
  calls = λ j n p. 0;
  leaves = λ j n p. 0;
}

pub reached : (demand_bare plain 5 ∷ served (machine plain plain_jobs) 1 0 4 ∷ served (machine plain plain_jobs) 1 0 5 ∷ []) ≡ (5 ∷ 2 ∷ 3 ∷ [])
unfolding sum state_at first_task first_job content_at is_in without used_since any largest demand_of fold_by run charge
reached = refl

-- ---- with a reload, of a direct-mapped cache: a has C 1 and T 9, and its first job comes at tick 2; b has C 4 and T 30. Both use cache set 0 in every
-- tick, a with block 20 and b with block 10, which is useful to it, and a reload takes 2 ticks. The first job of b reloads once, waits 2 ticks, and has
-- worked 3 ticks at tick 6 and 4 at tick 7; the equation has the response 7

abbrev mapped : System
mapped = record {
  tasks = λ j. elim j [ zero ↦ task 9 1 (λ c. 0) (λ c. eqb c 0) | suc k ↦ task 30 4 (λ c. 1) (λ c. eqb c 0) ];
  size = 2;
  accesses = no_access;
  many = 0;
  sets = 1;
  ways = 1;
  brt = 2;
}

abbrev mapped_jobs : Programs
mapped_jobs = record {
  arrives = λ j n. elim j [ zero ↦ 2 + n * 9 | suc k ↦ n * 30 ];
  released = λ j n. elim j [ zero ↦ 2 + n * 9 | suc k ↦ n * 30 ];
  needs = λ j n. elim j [ zero ↦ 1 | suc k ↦ 4 ];
  program = λ j n p c. eqb c 0;
  blocks = λ j n p c. elim j [ zero ↦ 20 | suc k ↦ 10 ];
  enters = λ j n p. false;
  calls = λ j n p. 0;
  leaves = λ j n p. 0;
}

pub reached-reloading : (reloads_of 1 (machine mapped mapped_jobs) 1 1 0 7 ∷ waits_of (machine mapped mapped_jobs) 1 0 7
    ∷ served (machine mapped mapped_jobs) 1 0 6 ∷ served (machine mapped mapped_jobs) 1 0 7 ∷ demand_bare mapped 7 ∷ [])
    ≡ (1 ∷ 2 ∷ 3 ∷ 4 ∷ 7 ∷ [])
unfolding sum state_at first_task first_job content_at is_in without used_since any largest demand_of fold_by run charge
reached-reloading = refl

-- ---- with two ways: a has C 1 and T 15, its first job comes at tick 2, and it uses block 20; b has C 5 and T 40, and uses the blocks 10, 11, 10, 11, 10 of
-- the same cache set, so that two are useful. The one block of a costs b both of its: it reloads twice, waits 4 ticks, and has worked 4 ticks at
-- tick 9 and 5 at tick 10; the equation has the response 10

abbrev two : System
two = record {
  tasks = λ j. elim j [ zero ↦ task 15 1 (λ c. 0) (λ c. eqb c 0) | suc k ↦ task 40 5 (λ c. 2) (λ c. eqb c 0) ];
  size = 2;
  accesses = no_access;
  many = 0;
  sets = 1;
  ways = 2;
  brt = 2;
}

abbrev two_jobs : Programs
two_jobs = record {
  arrives = λ j n. elim j [ zero ↦ 2 + n * 15 | suc k ↦ n * 40 ];
  released = λ j n. elim j [ zero ↦ 2 + n * 15 | suc k ↦ n * 40 ];
  needs = λ j n. elim j [ zero ↦ 1 | suc k ↦ 5 ];
  program = λ j n p c. eqb c 0;
  blocks = λ j n p c. elim j [ zero ↦ 20 | suc k ↦ elim (eqb p 1 || eqb p 3) [ true ↦ 11 | false ↦ 10 ] ];
  enters = λ j n p. false;
  calls = λ j n p. 0;
  leaves = λ j n p. 0;
}

pub reached-on-two-ways : (reloads_of 2 (machine two two_jobs) 1 1 0 10 ∷ waits_of (machine two two_jobs) 1 0 10
    ∷ served (machine two two_jobs) 1 0 9 ∷ served (machine two two_jobs) 1 0 10 ∷ demand_bare two 10 ∷ [])
    ≡ (2 ∷ 4 ∷ 4 ∷ 5 ∷ 10 ∷ [])
unfolding sum state_at first_task first_job content_at is_in without used_since any largest demand_of fold_by run charge
reached-on-two-ways = refl
