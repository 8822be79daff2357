-- How often the terms are known to be activated, from turn to turn of a search: a count for each of the first n terms, which holds up to its end.
use Rattle.std.specs.Prelude.{ℕ, ◌+◌, ◌-◌, ◌*◌, ◌≤◌, ◌<◌, ◌≡◌, List, length, slice_index_or}
use Rattle.search.specs.declared.demand.Term.{Term}
use Rattle.search.specs.Positions.{hp, fold_by}
use Rattle.search.specs.Demand.{ceil, activations_of, demand_of}
use Rattle.search.specs.declared.response.Count.{Count}

abbrev pub count : ℕ → ℕ → Count
count activations end = record { activations = activations; end = record { 0 = end } }

-- the count at j
abbrev pub count_in : List Count → ℕ → Count
count_in counts j = slice_index_or counts j (count 0 0)

-- one activation
abbrev pub once : Term → Count
once t = count 1 (t.period.0 - t.jitter.0)

-- how many activations more there are up to r than up to `end`
abbrev pub missing_of : ℕ → ℕ → ℕ → ℕ
missing_of period end r = ceil (r - end) period

-- a count raised to the activations up to r
abbrev pub raised_to : Term → ℕ → Count → Count
raised_to t r c = count (c.activations + missing_of t.period.0 c.end.0 r) (c.end.0 + missing_of t.period.0 c.end.0 r * t.period.0)

-- what the counts ask for: the task's own work, and a weight for each activation
unfoldable pub asked_of : ℕ → (ℕ → Term) → List Count → ℕ → ℕ
asked_of own t counts n = fold_by ◌+◌ own (λ j. (count_in counts j).activations * (t j).weight.0) (hp n)

-- each count holds up to its end
pub record CountsHold (t : ℕ → Term) (n : ℕ) (counts : List Count) : Type 0 where
  pub long : n ≤ length counts
  pub soon : (j : ℕ) → j < n → (count_in counts j).end.0 ≤ 500000000
  pub holds : (j : ℕ) → j < n → (count_in counts j).end.0 + (t j).jitter.0 ≡ (count_in counts j).activations * (t j).period.0

-- the first n counts raised to the activations up to r
pub record Raised (t : ℕ → Term) (r : ℕ) (counts : List Count) (n : ℕ) (to : List Count) : Type 0 where
  pub long : length to ≡ length counts
  pub each : (j : ℕ) → j < n → count_in to j ≡ raised_to (t j) r (count_in counts j)

-- counts to start from: none is above what any solution has
pub record Started (own : ℕ) (t : ℕ → Term) (n : ℕ) (counts : List Count) : Type 0 where
  pub kept : CountsHold t n counts
  pub under : (s : ℕ) → s ≡ demand_of own t n s → (j : ℕ) → j < n → (count_in counts j).activations ≤ activations_of s (t j)
