-- What the functions promise, as laws of every run.
use Prim.Native.Nat.{ℕ, suc, ◌+◌, ◌≤◌, ◌<◌}
use native.Mathlib.Omega.{arith}
use mathlib.Core.Path.{◌≡◌, refl, sym, subst₂, ◌∙◌}
use mathlib.Core.Bool.{Bool, true, false}
use mathlib.Core.Logic.{◌⊎◌, inl, inr}
use mathlib.Core.List.{List, [], ◌∷◌}
use lib.Dec.{ltb}
use borrow.Author.Tests.{ltb-true, ltb-false}
use Rattle.std.specs.Prelude.{Option}
use Rattle.runs.specs.declared.Held.{Held}
use Rattle.std.proofs.lemmas.Bool.{both_ways}
use Rattle.search.specs.Demand.{ceil}
use Rattle.runs.specs.Sums.{sum, one}
use Rattle.runs.specs.model.Jobs.{Slot, Complete, Run, idle, job, given, Pending, Constrained}
use Rattle.runs.specs.model.Accesses.{Holding}
use Rattle.runs.specs.model.Legal.{System, Legal}
use Rattle.runs.specs.machine.Turns.{Entry, who, choose, state_at}
use Rattle.runs.specs.Equation.{used_above, CanBlock}
use Rattle.runs.specs.Theorem.{AnswersInTime}
use Rattle.runs.specs.Promises.{inside, GoesByCeiling, task_in, top_of, MachineGoes}
use Rattle.runs.proofs.SearchLaws.{any-has}
use Rattle.runs.proofs.JobLaws.{served-mono, releases-most, given-self}
use Rattle.runs.proofs.OvertakingLaws.{same-task, between-other}
use Rattle.runs.proofs.BlockingLaws.{plain}
use Rattle.runs.proofs.Theorem.{rules-of, answers-bound}
use Rattle.runs.proofs.ProgramLaws.{machine-legal}

module _ (s : System) (z : Run) (legal : Legal s z) where
  pub most : (j : ℕ) → j < s.size → 1 ≤ (s.tasks j).period → (time a m : ℕ)
      → sum (λ n. one (inside a time (z.released j n))) m ≤ ceil (time + (s.tasks j).jitter) (s.tasks j).period
  most j l live time a m = releases-most s.tasks s.size z
      (record { jobs = legal.jobs; only_pending = λ t j n e. at t j n (z.waits t) e })
      j m a time l live
    where
      at : (t j n : ℕ) (b : Bool) → elim b [ true ↦ idle | false ↦ z.has t ] ≡ job j n → (j < s.size) × Pending z j n t
      at t j n true e = absurd (both_ways (given j n idle) refl (given-self j n idle e))
      at t j n false e = legal.scheduled.only_pending t j n e

  -- a job that is overtaken is overtaken by a task above
  pub above-job : ((p : ℕ) → p < s.size → Constrained (s.tasks p)) → (k j m l from v t : ℕ) → z.has from ≡ job k m → z.has t ≡ job k m
      → from ≤ v → v ≤ t → z.has v ≡ job j l → given k m (z.has v) ≡ false → j < k
  above-job sane k j m l from v t e f a b g o =
      let w = between-other s.tasks s.size z (plain s.tasks s.size s.accesses s.many z (rules-of s z legal)) sane from v t k m e f a b o in
      omega (arith, w.3, same-task (sym w.2 ∙ g))

  -- and in an access that may block i by one above i and above the ceiling
  pub above-access : (i k j u t m l : ℕ) → Holding z u t → z.has u ≡ job k m → CanBlock (s.accesses (z.which u)) i → z.has t ≡ job j l
      → given k m (z.has t) ≡ false → (j < (s.accesses (z.which u)).ceiling) × (j < k)
  above-access i k j u t m l h e b f o = at (legal.scheduled.above_only u t k m j l h e f)
    where
      low : i < k
      low = let w = legal.held.whose u h.taken in omega (arith, b.0, same-task (sym w.2 ∙ e))

      at : (j < (s.accesses (z.which u)).ceiling) ⊎ (job j l ≡ job k m) → (j < (s.accesses (z.which u)).ceiling) × (j < k)
      at (inl q) = (q, omega (arith, b.1, low))
      at (inr q) = absurd (both_ways (given k m (z.has t)) o (given-self k m (z.has t) (f ∙ q)))

  pub taken : (lowest k v m c : ℕ) → k ≤ lowest → z.has v ≡ job k m → z.uses v c ≡ true → used_above s lowest c ≡ true
  taken lowest k v m c l e u = any-has (λ p. (s.tasks p).evicting c) (suc lowest) k (omega arith) (legal.evicts v k m c e u)

-- a job has ended at each time that is R ticks after its release or later
pub ended-by : (s : System) (i R : ℕ) → AnswersInTime s i R → (z : Run) → Legal s z → (n : ℕ) → {end : ℕ} → z.released i n + R ≤ end → Complete z i n end
ended-by s i R a z legal n {end} l = omega (arith, (answers-bound s i R a z legal n).0, served-mono z i n (z.released i n + R) end l)

-- what the machine chooses
choose-task : (y : Slot) (l : List Entry) (to : Option ℕ) → GoesByCeiling (task_in y) (top_of l) to → task_in (choose y l) ≡ to
choose-task idle [] to g = sym g
choose-task (job k m) [] to g = sym g
choose-task idle (e ∷ r) to g = sym g
choose-task (job k m) (e ∷ r) to g = at (ltb k e.ceiling) refl
  where
    at : (b : Bool) → ltb k e.ceiling ≡ b → task_in (elim b [ true ↦ job k m | false ↦ job e.task e.index ]) ≡ to
    at true q = sym (g.0 (ltb-true k e.ceiling q))
    at false q = sym (g.1 (ltb-false k e.ceiling q))

pub machine_goes : (first : Option ℕ) (held : Option Held) (to : Option ℕ) → GoesByCeiling first held to → MachineGoes first held to
unfolding MachineGoes
machine_goes first held to g s sane w kept = (
  machine-legal s w sane kept,
  λ t e f. choose-task (who w s.size t (state_at s w t)) (state_at s w t).stack to
      (subst₂ (λ (a : Option ℕ) (b : Option Held). GoesByCeiling a b to) (sym e) (sym f) g),
)
