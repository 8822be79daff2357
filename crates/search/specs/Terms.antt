-- Terms that are lent as a list.
use Rattle.std.specs.Prelude.{ℕ, ◌≤◌, ◌<◌, List, length, slice_index_or}
use Rattle.search.specs.declared.demand.Term.{Term}
use Rattle.search.specs.Demand.{term_of}

-- the term at j
abbrev pub term_in : List Term → ℕ → Term
term_in terms j = slice_index_or terms j (term_of 0 0 0)

-- the ranges of what one task of higher priority asks for
pub record InRange (t : Term) : Type 0 where
  pub period : 1 ≤ t.period.0
  pub period-most : t.period.0 ≤ 250000000
  pub jitter : t.jitter.0 ≤ t.period.0
  pub weight : t.weight.0 ≤ 500000000

-- what a call is to be handed: at most 32 terms, and numbers with which no side of an equation reaches 2 ^ 64
pub record NoOverflow (own : ℕ) (terms : List Term) (r : ℕ) : Type 0 where
  pub few : length terms ≤ 32
  pub own-least : 1 ≤ own
  pub own-most : own ≤ 500000000
  pub time : r ≤ 250000000
  pub ranged : (j : ℕ) → j < length terms → InRange (term_in terms j)
