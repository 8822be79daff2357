-- The model, 4 of 5: a cache whose sets have W ways each, where the block that was used longest ago goes first (LRU). Each use of a cache set in
-- a tick is of one memory block. (A tick may be as short as one clock cycle: the equation is the same in any unit of time.) A direct-mapped cache
-- is the case W = 1: a set holds the block that was used there last. Read on in Legal.
use Rattle.std.specs.Prelude.{ℕ, zero, suc, Bool, true, false, ◌&&◌, ◌||◌, not, List, [], ◌∷◌, take, eqb, leb}
use Rattle.runs.specs.Sums.{sum, one}
use Rattle.runs.specs.model.Jobs.{Run, given}

-- ---- one cache set

-- block x is one of these
unfoldable pub is_in : ℕ → List ℕ → Bool
is_in x [] = false
is_in x (y ∷ l) = eqb x y || is_in x l

-- these without block x
unfoldable pub without : ℕ → List ℕ → List ℕ
without x [] = []
without x (y ∷ l) = elim (eqb x y) [ true ↦ l | false ↦ y ∷ without x l ]

-- what a use of block b makes of what a set holds, the youngest block first: b is the youngest, and of more than W blocks the oldest goes
abbrev pub loaded : ℕ → ℕ → List ℕ → List ℕ
loaded W b l = take W (b ∷ without b l)

-- what a cache set holds before tick t, where it is used in the ticks `on` and is empty at first
unfoldable pub content_at : ℕ → (ℕ → Bool) → (ℕ → ℕ) → ℕ → List ℕ
content_at W on block zero = []
content_at W on block (suc t) = elim (on t) [ true ↦ loaded W (block t) (content_at W on block t) | false ↦ content_at W on block t ]

-- block x is in the set before tick t
abbrev pub present : ℕ → (ℕ → Bool) → (ℕ → ℕ) → ℕ → ℕ → Bool
present W on block t x = is_in x (content_at W on block t)

-- block x is used in one of the ticks from T on and before t
unfoldable pub used_since : (ℕ → Bool) → (ℕ → ℕ) → ℕ → ℕ → ℕ → Bool
used_since on block T zero x = false
used_since on block T (suc t) x = (leb T t && on t && eqb x (block t)) || used_since on block T t x

-- ---- jobs and accesses: each as if no other had used the cache set

-- the ticks in which job n of the task at j uses cache set c; and those from tick u on, in which it has taken an access
abbrev pub own : Run → ℕ → ℕ → ℕ → ℕ → Bool
own z j n c t = z.uses t c && given j n (z.has t)

abbrev pub own_since : Run → ℕ → ℕ → ℕ → ℕ → ℕ → Bool
own_since z u j n c t = leb u t && own z j n c t

-- in tick t a block of cache set c is used that would be there, had the set only been used in the ticks `on`
abbrev pub finds_alone : ℕ → Run → (ℕ → Bool) → ℕ → ℕ → Bool
finds_alone W z on c t = z.uses t c && present W on (λ s. z.block s c) t (z.block t c)

-- job n of the task at j has to reload in tick t: it would have found the block, alone with what it used in the ticks `on`, and does not find it.
-- (Any other miss it would have alone too, and its cost, or its access's length, has it.)
abbrev pub reloads : ℕ → Run → (ℕ → Bool) → ℕ → ℕ → ℕ → ℕ → Bool
reloads W z on j n c t =
    given j n (z.has t) && (finds_alone W z on c t && not (present W (λ s. z.uses s c) (λ s. z.block s c) t (z.block t c)))

-- it finds_alone, alone, a block that it uses the first time from T on: a block that is useful to it at T
abbrev pub finds_first : ℕ → Run → (ℕ → Bool) → ℕ → ℕ → ℕ → ℕ → ℕ → Bool
finds_first W z on j n T c t =
    given j n (z.has t) && (finds_alone W z on c t && (leb T t && not (used_since on (λ s. z.block s c) T t (z.block t c))))

-- the reloads of a job before tick t, in so many cache sets, and the ticks before t in which it waits
abbrev pub reloads_of : ℕ → Run → ℕ → ℕ → ℕ → ℕ → ℕ
reloads_of W z sets j n t = sum (λ s. sum (λ c. one (reloads W z (own z j n c) j n c s)) sets) t

abbrev pub waits_of : Run → ℕ → ℕ → ℕ → ℕ
waits_of z j n t = sum (λ s. one (z.waits s && given j n (z.has s))) t
