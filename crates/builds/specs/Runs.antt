-- A run over builds: those of a part, what is told of each, and the list of them.
use Rattle.std.specs.Prelude.{ℕ, zero, suc, ◌≡◌, ◌+◌, ◌%◌, flat_map, Bool, List, [], ◌∷◌, ◌++◌, map, length, Option, Some, IfSome, IsPermutation, ◌==◌, if◌then◌else◌}
use Rattle.lists.specs.declared.Fate.{Fate}
use Rattle.lists.specs.Lists.{list_line}
use Rattle.spelling.specs.Spelling.{spelled_out}
use Rattle.lists.specs.Together.{together}
use Rattle.builds.specs.Folders.{Held, with_reports, fate_told, reports_told}

-- ---- a part

-- whether the build at a place, counted from 1, is in the part of that number, of so many
abbrev pub in_part : ℕ → ℕ → ℕ → Bool
in_part number of place = place % of == number % of

-- the ways in that part, of ways of which the first has that place
unfoldable pub part_from : ℕ → ℕ → ℕ → List (List ℕ) → List (List ℕ)
part_from number of place [] = []
part_from number of place (w ∷ ws) = if in_part number of place then w ∷ part_from number of (place + 1) ws else part_from number of (place + 1) ws

abbrev pub part_of : ℕ → ℕ → List (List ℕ) → List (List ℕ)
part_of number of ways = part_from number of 1 ways

-- ---- what is told of each

-- a line for each build, with what is told of it
abbrev pub lines_told : List (List ℕ) → List Fate → List (List ℕ)
lines_told [] fates = []
lines_told (w ∷ ws) [] = []
lines_told (w ∷ ws) (f ∷ fs) = list_line (spelled_out w) f ∷ lines_told ws fs

-- of a run: what is told of each build, and what lies in the folder after that: their reports, and no other
pub record RunTold (before : Held) (ways : List (List ℕ)) (fates : List Fate) (after : Option Held) : Type 0 where
  pub told : fates ≡ map (fate_told before) ways
  pub put : after ≡ Some (with_reports before (flat_map (reports_told before) ways))

-- ---- the list

-- the list of builds, by what is told of each
abbrev pub list_of : (List ℕ → Fate) → List (List ℕ) → List ℕ
list_of fate ways = together (map (λ w. list_line (spelled_out w) (fate w)) ways)

-- of a run over the builds at the ends of some ways: the list, what is told of each, and what lies in the folder after that. Where it is known what lies there, the
-- list is that of these builds, in whatever order they come
pub record WritesReports (held : Option Held) (ways : List (List ℕ)) (list : List ℕ) (fates : List Fate) (after : Option Held) : Type 0 where
  pub list-is : list ≡ together (lines_told ways fates)
  pub each : length fates ≡ length ways
  pub told : IfSome held (λ h. RunTold h ways fates after)
  pub any_order : IfSome held (λ h. (shuffled : List (List ℕ)) → IsPermutation ways shuffled → list ≡ list_of (fate_told h) shuffled)

-- ---- the parts together

-- the numbers from 1 to n
abbrev pub numbers_to : ℕ → List ℕ
numbers_to zero = []
numbers_to (suc n) = numbers_to n ++ suc n ∷ []

-- the parts of builds: each build is in one of them; and of their lists, put together, comes the list of one run
pub record SharedOut (of : ℕ) (ways : List (List ℕ)) : Type 0 where
  pub each : IsPermutation ways (flat_map (λ k. part_of k of ways) (numbers_to of))
  pub list : (fate : List ℕ → Fate) → together (map (λ k. list_of fate (part_of k of ways)) (numbers_to of)) ≡ list_of fate ways
