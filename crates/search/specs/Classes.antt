-- Terms in classes, which a list tells: 0 to 7 are rounds, 8 has those that are taken by their share alone, and 9 those that are counted.
use Rattle.std.specs.Prelude.{ℕ, ◌+◌, ◌*◌, ◌≤◌, Bool, List, if◌then◌else◌, nat_le, nat_lt, slice_index, ◌==◌}
use Rattle.search.specs.Positions.{hp, fold_by}
use Rattle.search.specs.declared.demand.Term.{Term}
use Rattle.search.specs.Demand.{work_of}
use Rattle.search.specs.Shares.{share_of}

-- a number of each of the first n terms, added up over some of them
unfoldable pub sum_over : (ℕ → Bool) → (ℕ → ℕ) → ℕ → ℕ
sum_over some x n = fold_by ◌+◌ 0 (λ j. if some j then x j else 0) (hp n)

-- those of one class, of the classes before it, and of it and those after it
abbrev pub in_class : List ℕ → ℕ → ℕ → Bool
in_class classes c j = slice_index classes j == c

abbrev pub before_class : List ℕ → ℕ → ℕ → Bool
before_class classes c j = nat_lt (slice_index classes j) c

abbrev pub from_class : List ℕ → ℕ → ℕ → Bool
from_class classes c j = nat_le c (slice_index classes j)

-- the shares of some terms, and what they ask for in s ticks
abbrev pub shares_over : (ℕ → Bool) → (ℕ → Term) → ℕ → ℕ
shares_over some t n = sum_over some (λ j. share_of (t j)) n

abbrev pub works_over : (ℕ → Bool) → (ℕ → Term) → ℕ → ℕ → ℕ
works_over some t n s = sum_over some (λ j. work_of s (t j)) n

-- in s ticks some terms ask for their shares of them, and for `more` parts besides
abbrev pub AskMore : (ℕ → Bool) → (ℕ → Term) → ℕ → ℕ → ℕ → Type 0
AskMore some t n more s = more + s * shares_over some t n ≤ 17179869184 * works_over some t n s

-- the terms that are taken by their shares, and those that are counted
abbrev pub taken : List ℕ → ℕ → Bool
taken classes = before_class classes 9

abbrev pub counted : List ℕ → ℕ → Bool
counted classes = from_class classes 9
