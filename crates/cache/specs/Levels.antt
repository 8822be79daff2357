-- What the levels of a `Useful` stand for: a cache set holds a useful block for each level that it is in.
use Rattle.std.specs.Prelude.{ℕ, zero, suc, ◌+◌, ◌^◌, ◌≤◌, ◌<◌, ◌≡◌, true, List, [], ◌∷◌, map, slice_index_or, if◌then◌else◌, nat_lt}
use Rattle.cache.specs.declared.sets.CacheSet.{CacheSet}
use Rattle.cache.specs.Sets.{Set}
use Rattle.cache.specs.Words.{members, words_of}
use Rattle.cache.specs.Stored.{held_at}
use Rattle.cache.specs.declared.useful.Useful.{Useful}
use Rattle.cache.specs.Counts.{Counts, nothing, of_set, ◌⊕◌}

abbrev pub set_at : List CacheSet → ℕ → CacheSet
set_at levels l = slice_index_or levels l (record { w0 = 0; w1 = 0; w2 = 0; w3 = 0 })

abbrev pub level : List CacheSet → ℕ → Set
level levels l = members (set_at levels l)

-- over the first n levels
unfoldable pub heights : ℕ → List CacheSet → Counts
heights zero levels = nothing
heights (suc n) levels = heights n levels ⊕ of_set (level levels n)

-- the counts, where there are so many ways
abbrev pub counts : ℕ → Useful → Counts
counts ways u = heights ways u.levels

-- one block more in each cache set of A is put on the levels from `from` on, below `to`. Those of C find no place: each of these levels has them
pub record Puts (from to : ℕ) (old : Useful) (A : Set) (new : Useful) (C : Set) : Type 0 where
  pub counted : (ways : ℕ) → to ≤ ways → counts ways new ⊕ of_set C ≡ counts ways old ⊕ of_set A
  pub kept : (l : ℕ) → to ≤ l → level new.levels l ≡ level old.levels l
  pub left : (s : ℕ) → C s ≡ true → A s ≡ true
  pub full : (l s : ℕ) → from ≤ l → l < to → C s ≡ true → level new.levels l s ≡ true

-- ---- the levels of given counts

-- the cache sets whose count is above n
unfoldable pub above : ℕ → Counts → Set
above n U = λ s. nat_lt n (U s)

-- the number whose bits are those of a set, as far as n
unfoldable pub number_below : ℕ → Set → ℕ
number_below zero A = 0
number_below (suc n) A = number_below n A + (if A n then 2 ^ n else 0)

abbrev pub set_of : Set → CacheSet
set_of A = words_of (number_below 256 A)

-- level l has the cache sets whose count is above l
abbrev pub leveled : Counts → Useful
leveled U = record { levels = map (λ l. set_of (above l U)) (0 ∷ 1 ∷ 2 ∷ 3 ∷ 4 ∷ 5 ∷ 6 ∷ 7 ∷ []) }

-- levels that stand in a list of words, four for each, the lowest first
abbrev pub held_levels : List ℕ → Useful
held_levels ws = record {
  levels =
      held_at ws 0 ∷ held_at ws 1 ∷ held_at ws 2 ∷ held_at ws 3 ∷ held_at ws 4 ∷ held_at ws 5 ∷ held_at ws 6 ∷ held_at ws 7 ∷ [];
}

-- a set alone: where there is 1 way, the first level is all
abbrev pub marked : CacheSet → Useful
marked c =
    let none : CacheSet = record { w0 = 0; w1 = 0; w2 = 0; w3 = 0 } in
    record { levels = c ∷ none ∷ none ∷ none ∷ none ∷ none ∷ none ∷ none ∷ [] }
