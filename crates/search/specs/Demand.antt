-- The demand of a task and of those above it.
use Rattle.std.specs.Prelude.{ℕ, ◌+◌, ◌-◌, ◌*◌, ◌/◌, ◌≤◌}
use Rattle.search.specs.declared.demand.Term.{Term}
use Rattle.search.specs.Positions.{hp, fold_by}

-- what one task of higher priority asks for: w ticks at each activation
abbrev pub term_of : ℕ → ℕ → ℕ → Term
term_of p j w = record { period = record { 0 = p }; jitter = record { 0 = j }; weight = record { 0 = w } }

-- ⌈x / t⌉, for a t that is not 0
abbrev pub ceil : ℕ → ℕ → ℕ
ceil x t = (x + (t - 1)) / t

-- how often one task of higher priority is activated in r ticks, and the work that it asks for
abbrev pub activations_of : ℕ → Term → ℕ
activations_of r t = ceil (r + t.jitter.0) t.period.0

abbrev pub work_of : ℕ → Term → ℕ
work_of r t = activations_of r t * t.weight.0

-- the demand at r: the task's own work, and that of each task above it, where the one at j asks for `terms j`
unfoldable pub demand_of : ℕ → (ℕ → Term) → ℕ → ℕ → ℕ
demand_of own terms i r = fold_by ◌+◌ own (λ j. work_of r (terms j)) (hp i)

-- a asks for no more than b
pub record NoMore (a b : Term) : Type 0 where
  pub live : 1 ≤ b.period.0
  pub period : b.period.0 ≤ a.period.0
  pub jitter : a.jitter.0 ≤ b.jitter.0
  pub weight : a.weight.0 ≤ b.weight.0
