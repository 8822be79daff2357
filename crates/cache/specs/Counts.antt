-- Useful blocks, counted, as mathematics has them: counts say of each number s how many useful blocks cache set s holds.
use Rattle.std.specs.Prelude.{ℕ, zero, suc, ◌+◌, ◌≤◌, min, if◌then◌else◌}
use Rattle.cache.specs.Sets.{Set}

abbrev pub Counts : Type 0
Counts = ℕ → ℕ

infixl 20 ◌⊕◌
infixl 25 ◌on◌
infix 15 ◌≼◌
unfoldable pub nothing : Counts
nothing = λ s. 0

-- one useful block in each cache set of A: what a set says where there is 1 way
unfoldable pub of_set : Set → Counts
of_set A = λ s. if A s then 1 else 0

-- the counts of each cache set are added ..
unfoldable pub ◌⊕◌ : Counts → Counts → Counts
U ⊕ W = λ s. U s + W s

-- .. and capped at the ways
unfoldable pub capped : ℕ → Counts → Counts
capped ways U = λ s. min ways (U s)

-- the counts of the evicting sets alone
unfoldable pub ◌on◌ : Counts → Set → Counts
U on E = λ s. if E s then U s else 0

-- no count of U is larger
abbrev pub ◌≼◌ : Counts → Counts → Type 0
U ≼ W = (s : ℕ) → U s ≤ W s

-- the counts of the cache sets below n, added
unfoldable pub total_below : ℕ → Counts → ℕ
total_below zero U = 0
total_below (suc n) U = total_below n U + U n

-- how many useful blocks the 256 cache sets hold
unfoldable pub total : Counts → ℕ
total U = total_below 256 U
