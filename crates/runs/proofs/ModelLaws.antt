-- What the model says of itself: laws by which a reader can tell that it is the processor that is meant.
use Prim.Native.Nat.{ℕ, suc, ◌≤◌, ◌<◌}
use native.Mathlib.Omega.{arith}
use mathlib.Core.Path.{◌≡◌, refl}
use mathlib.Core.Bool.{Bool, true}
use mathlib.Core.Logic.{◌⊎◌, inl, inr}
use mathlib.Core.List.{[], ◌∷◌}
use Rattle.runs.specs.model.Jobs.{Run, job, Pending}
use Rattle.runs.specs.model.Accesses.{Holding}
use Rattle.runs.specs.model.Cache.{content_at}
use Rattle.runs.specs.model.Legal.{System, Legal}
use Rattle.runs.proofs.JobLaws.{AtLeast}
use Rattle.runs.proofs.BlockingLaws.{plain}
use Rattle.runs.proofs.Theorem.{rules-of}

-- with one way a cache set holds the block that was used there last, and no other: a direct-mapped cache
pub one-way : (on : ℕ → Bool) (block : ℕ → ℕ) (t : ℕ) → on t ≡ true → content_at 1 on block (suc t) ≡ block t ∷ []
unfolding content_at
one-way on block t e = rw (content_at, e) refl

-- where there are no accesses a task is never blocked: while a job of it is pending, it or a task above has the processor
pub pre-emptive : (s : System) (z : Run) → Legal s z → s.many ≡ 0 → (t j n : ℕ) → j < s.size → Pending z j n t
    → (k : ℕ) × (m : ℕ) × (z.has t ≡ job k m) × (k ≤ j)
pre-emptive s z legal none t j n l p = go (legal.scheduled.highest t j n l p)
  where
    go : (k : ℕ) × (m : ℕ) × (z.has t ≡ job k m)
        × ((k ≤ j) ⊎ ((u : ℕ) × Holding z u t × (z.has u ≡ job k m) × ((s.accesses (z.which u)).ceiling ≤ j)))
        → (k : ℕ) × (m : ℕ) × (z.has t ≡ job k m) × (k ≤ j)
    go (k, m, e, inl w) = (k, m, e, w)
    go (k, m, e, inr (u, h, f, w)) = absurd (omega (arith, none, (legal.held.whose u h.taken).0))

-- with accesses a job may be blocked before it begins, and never from then on
pub never-blocked : (s : System) (z : Run) → Legal s z → (v t j n : ℕ) → v < t → z.has v ≡ job j n → Pending z j n t → AtLeast j (z.has t)
never-blocked s z legal v t j n l e p = (plain s.tasks s.size s.accesses s.many z (rules-of s z legal)).once_begun v t j n l e p
