-- A worked figure with an access: the plain equation does not bound a task that waits for one.
use Prim.Native.Nat.{ℕ, zero, suc, ◌+◌, ◌*◌, ◌≤◌, ◌<◌}
use native.Mathlib.Nat.{le_of_eq}
use native.Mathlib.Omega.{arith}
use mathlib.Core.Path.{◌≡◌, refl, sym, subst₂}
use mathlib.Core.Bool.{Bool, true, false, ◌&&◌}
use mathlib.Core.List.{[], ◌∷◌}
use lib.Dec.{eqb, leb, ltb}
use borrow.Author.Tests.{eqb-true, ne_eqb, le-leb}
use Rattle.std.proofs.lemmas.Bool.{and_from, and_parts}
use Rattle.search.specs.Positions.{run, fold_by}
use Rattle.search.specs.Demand.{demand_of}
use Rattle.runs.specs.Sums.{sum, one}
use Rattle.runs.specs.model.Jobs.{Run, Constrained, served}
use Rattle.runs.specs.model.Cache.{is_in, without, content_at, used_since}
use Rattle.runs.specs.model.Legal.{System, Legal}
use Rattle.runs.specs.machine.Chooser.{first_job, first_task}
use Rattle.runs.specs.machine.Programs.{Programs, uses_from, finds_in_program, AccessFair, ProgramsKept}
use Rattle.runs.specs.machine.Turns.{state_at, machine}
use Rattle.runs.specs.Equation.{any, largest, added, by_ucb_union, by_ecb_union, charge, term_charged}
use Rattle.runs.proofs.SumLaws.{sum-none, sum-empty}
use Rattle.runs.proofs.LostLaws.{program-most}
use Rattle.runs.proofs.ProgramLaws.{machine-legal}
use Rattle.runs.proofs.Figures.{task}

-- three tasks: 0 and 1 have C 1 and T 20, and come at tick 1; 2 has C 3 and T 30, comes at tick 0, and takes an access to the bus, with ceiling 1, for all of
-- its work, to its very end. 0 and 2 use the cache sets 0 and 1, each with its own block; those of 2 are useful to it, and a reload takes 1 tick
abbrev bus : System
bus = record {
  tasks = λ j. elim j [
    | zero ↦ task 20 1 (λ c. 0) (λ c. ltb c 2)
    | suc k ↦ elim k [ zero ↦ task 20 1 (λ c. 0) (λ c. false) | suc l ↦ task 30 3 (λ c. 1) (λ c. ltb c 2) ]
  ];
  size = 3;
  accesses = λ q. record { task = 2; ceiling = 1; length = 3; useful = λ c. 1 };
  many = 1;
  sets = 2;
  ways = 1;
  brt = 1;
}

abbrev arrives : ℕ → ℕ → ℕ
arrives zero n = 1 + n * 20
arrives (suc zero) n = 1 + n * 20
arrives (suc (suc j)) n = n * 30

abbrev works_on : ℕ → ℕ → ℕ → Bool
works_on zero p c = eqb p 0 && ltb c 2
works_on (suc zero) p c = false
works_on (suc (suc j)) p c = ltb c 2

abbrev bus_jobs : Programs
bus_jobs = record {
  arrives = arrives;
  released = arrives;
  needs = λ j n. (bus.tasks j).cost;
  program = λ j n p c. works_on j p c;
  blocks = λ j n p c. j;
  enters = λ j n p. eqb j 2 && eqb p 0;
  calls = λ j n p. 0;
  leaves = λ j n p. 3;
}

abbrev bus_run : Run
bus_run = machine bus bus_jobs

-- the run is legal
pub bus-legal : Legal bus bus_run
unfolding sum content_at is_in without used_since
bus-legal = machine-legal bus bus_jobs sane kept
  where
    sane : (j : ℕ) → j < 3 → Constrained (bus.tasks j)
    sane zero l = record { live = omega arith; jitter = omega arith; deadline = omega arith }
    sane (suc zero) l = record { live = omega arith; jitter = omega arith; deadline = omega arith }
    sane (suc (suc j)) l = record { live = omega arith; jitter = omega arith; deadline = omega arith }

    later : (j n : ℕ) → arrives j n + (bus.tasks j).period ≤ arrives j (suc n)
    later zero n = omega arith
    later (suc zero) n = omega arith
    later (suc (suc j)) n = omega arith

    soon : (j n : ℕ) → arrives j n ≤ arrives j n + (bus.tasks j).jitter
    soon zero n = omega arith
    soon (suc zero) n = omega arith
    soon (suc (suc j)) n = omega arith

    evicts : (j n p c : ℕ) → works_on j p c ≡ true → (bus.tasks j).evicting c ≡ true
    evicts zero n p c e = (and_parts (eqb p 0) (ltb c 2) e).1
    evicts (suc zero) n p c e = e
    evicts (suc (suc j)) n p c e = e

    nothing : (b : Bool) → one (b && false) ≡ 0
    nothing true = refl
    nothing false = refl

    useful : (j n P c p : ℕ) → sum (λ q. one (finds_in_program 1 bus_jobs (λ v. works_on j v c) j n P c q)) p ≤ (bus.tasks j).useful c
    useful zero n P c p = le_of_eq (sum-empty _ p (λ q b. first q))
      where
        first : (q : ℕ) → one (finds_in_program 1 bus_jobs (λ v. works_on 0 v c) 0 n P c q) ≡ 0
        first zero = nothing (ltb c 2)
        first (suc q) = let e = ne_eqb (suc q) 0 (λ r. omega arith) in rw e refl
    useful (suc zero) n P c p = le_of_eq (sum-none p)
    useful (suc (suc j)) n P c p = program-most 1 bus_jobs (λ v. works_on (suc (suc j)) v c) (suc (suc j)) n P c p (λ q e. e)

    -- nothing is useful to a job that has not worked yet
    none-yet : (n : ℕ) → sum (λ c. sum (λ q. one (finds_in_program 1 bus_jobs (λ v. works_on 2 v c) 2 n 0 c q)) 3) 2 ≡ 0
    none-yet n = refl

    here : (n : ℕ) → AccessFair bus bus_jobs 2 n 0
    here n = record {
      known = omega arith;
      task = refl;
      ceiling = omega arith;
      some = omega arith;
      ends = omega arith;
      length = let e = none-yet n in omega arith;
      useful = λ P c b. program-most 1 bus_jobs (uses_from bus_jobs 2 n 0 c) 2 n P c 3 (λ q e. and_from (leb 0 q) (works_on 2 q c) (le-leb 0 q (omega arith)) e);
    }

    fair : (j n p : ℕ) → (eqb j 2 && eqb p 0) ≡ true → AccessFair bus bus_jobs j n p
    fair j n p e =
        let v = and_parts (eqb j 2) (eqb p 0) e in
        subst₂ (λ (j p : ℕ). AccessFair bus bus_jobs j n p) (sym (eqb-true j 2 v.0)) (sym (eqb-true p 0 v.1)) (here n)

    kept : ProgramsKept bus bus_jobs
    kept = record {
      apart = λ j n l. later j n;
      not_before = λ j n l. omega arith;
      not_after = λ j n l. soon j n;
      no_more = λ j n l. omega arith;
      evicts = evicts;
      useful = λ j n P c p l b. useful j n P c p;
      fair = fair;
    }

-- 2 takes its access in tick 0; 0 pre-empts it in tick 1, and takes both cache sets from it; it works in tick 2, waits in 3 and 4 and works in 5; only then 1
-- runs, in tick 6, and takes 6 ticks from its release. The plain equation with a blocking of 3 ticks answers 5 for it; with the access it answers 7
pub above-the-plain-bound : (
    served bus_run 1 0 6
    ∷ served bus_run 1 0 7
    ∷ demand_of (1 + 3) (term_charged bus (λ j. charge bus (λ c. 0) by_ucb_union 1 j)) 1 5
    ∷ demand_of (1 + 3) (term_charged bus (λ j. charge bus (λ c. 0) by_ecb_union 1 j)) 1 5
    ∷ demand_of (1 + 3) (term_charged bus (λ j. charge bus (added (bus.accesses 0) j) by_ucb_union 1 j)) 1 7
    ∷ demand_of (1 + 3) (term_charged bus (λ j. charge bus (added (bus.accesses 0) j) by_ecb_union 1 j)) 1 7
    ∷ []
    ) ≡ (0 ∷ 1 ∷ 5 ∷ 5 ∷ 7 ∷ 7 ∷ [])
unfolding sum state_at first_task first_job content_at is_in without used_since any largest demand_of fold_by run charge
above-the-plain-bound = refl
