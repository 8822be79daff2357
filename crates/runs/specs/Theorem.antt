-- The theorem: an answer of the equation bounds every job of every run.
use Rattle.std.specs.Prelude.{ℕ, ◌+◌, ◌≤◌, ◌<◌}
use Rattle.runs.specs.model.Jobs.{Run, Complete, Constrained}
use Rattle.runs.specs.model.Legal.{System, Legal}
use Rattle.runs.specs.Equation.{Count, Answers}

-- in a run, each job of the task at i is complete R ticks after its release, and by its deadline
abbrev pub EveryJobEnds : System → Run → ℕ → ℕ → Type 0
EveryJobEnds s z i R = (n : ℕ) → Complete z i n (z.released i n + R) × Complete z i n (z.arrives i n + (s.tasks i).deadline)

-- R answers the equation of a count for the task at i, and leaves room for the jitter before the deadline
pub record AnswersInTime (s : System) (i R : ℕ) : Type 0 where
  pub sane : (j : ℕ) → j < s.size → Constrained (s.tasks j)
  pub there : i < s.size
  pub count : Count
  pub answers : Answers s count i R
  pub in_time : R + (s.tasks i).jitter ≤ (s.tasks i).deadline

-- THE THEOREM
abbrev pub AnswersBound : Type 0
AnswersBound = (s : System) (i R : ℕ) → AnswersInTime s i R → (z : Run) → Legal s z → EveryJobEnds s z i R
