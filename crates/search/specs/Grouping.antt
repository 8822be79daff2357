-- What is known of a choice of rounds. A list tells the class of each of the first n terms: 0 to 7 are rounds, 8 has those that are taken by their share alone, and
-- 9 those that are counted.
use Rattle.std.specs.Prelude.{ℕ, ◌≤◌, ◌<◌, ◌≡◌, List, length, slice_index}
use Rattle.search.specs.declared.demand.Term.{Term}

-- no term has a longer period than the longest round, unless it is counted
pub record ShortTaken (t : ℕ → Term) (n : ℕ) (classes : List ℕ) : Type 0 where
  pub long : length classes ≡ 32
  pub short : (j : ℕ) → j < n → slice_index classes j < 9 → (t j).period.0 ≤ 16384

pub record Chosen (t : ℕ → Term) (n made : ℕ) (classes ticks : List ℕ) : Type 0 where
  pub few : made ≤ 8
  pub taken : ShortTaken t n classes
  pub ticks-long : length ticks ≡ 8
  pub some : (v : ℕ) → v < made → 1 ≤ slice_index ticks v
  pub short : (v : ℕ) → v < made → slice_index ticks v ≤ 16384
