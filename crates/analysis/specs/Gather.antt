-- What is gathered over the tasks that an activation can affect.
use Rattle.std.specs.Prelude.{ℕ, ◌+◌, max, ◌≤◌, ◌<◌, ◌≡◌, List, if◌then◌else◌, nat_lt, slice_index}
use Rattle.cache.specs.Sets.{Set, ∅, ◌∪◌}
use Rattle.cache.specs.Counts.{Counts, nothing, ◌⊕◌}
use Rattle.search.specs.Positions.{between, fold_by}
use Rattle.analysis.specs.declared.costs.Hit.{Hit}

-- the positions k with j < k ≤ i: whom an activation of j can affect while i is pending
abbrev pub aff : ℕ → ℕ → List ℕ
aff i j = between (j + 1) (i + 1)

abbrev pub union_of : (ℕ → Set) → List ℕ → Set
union_of F ks = fold_by ◌∪◌ ∅ F ks

abbrev pub counts_over : (ℕ → Counts) → List ℕ → Counts
counts_over F ks = fold_by ◌⊕◌ nothing F ks

-- the largest value alone: the count of the pair below (`largest-count` in proofs/HitLaws.antt)
abbrev pub largest_of : (ℕ → ℕ) → List ℕ → ℕ
largest_of F ks = fold_by max 0 F ks

-- ---- the largest value, and whose it is

-- n reloads of the task at k
abbrev pub hit : ℕ → ℕ → Hit
hit n k = record { reloads = record { 0 = n }; victim = k }

-- the larger of two, and the first where they are equal
abbrev pub larger_of : Hit → Hit → Hit
larger_of a b = if nat_lt a.reloads.0 b.reloads.0 then b else a

-- the largest value with the first position that has it, begun with 0 at p: p is the position where all values are 0
abbrev pub largest_from : ℕ → (ℕ → ℕ) → List ℕ → Hit
largest_from p F ks = fold_by larger_of (hit 0 p) (λ k. hit (F k) k) ks

-- the largest value over the positions, with the first of them that has it (0 at 0 where there are none, which aff i j never is for j < i)
abbrev pub largest_at : (ℕ → ℕ) → List ℕ → Hit
largest_at F ks = largest_from (slice_index ks 0) F ks

-- what that means over the positions k with from ≤ k < to: the victim is one of them and has the value, none of them has a larger one, and
-- none before the victim has it. proofs/HitLaws.antt has that it is so, and that nothing else is
pub record FirstLargest (F : ℕ → ℕ) (from to : ℕ) (h : Hit) : Type 0 where
  pub from_on : from ≤ h.victim
  pub below : h.victim < to
  pub value : F h.victim ≡ h.reloads.0
  pub most : (k : ℕ) → from ≤ k → k < to → F k ≤ h.reloads.0
  pub first : (k : ℕ) → from ≤ k → k < h.victim → F k < h.reloads.0
