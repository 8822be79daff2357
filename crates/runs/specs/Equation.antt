-- What the equation counts, and what an R has to be: over the systems of the model, and over no table.
use Rattle.std.specs.Prelude.{ℕ, zero, suc, ◌+◌, ◌-◌, ◌*◌, max, min, ◌≤◌, ◌<◌, Bool, true, false, ◌||◌, ltb}
use Rattle.search.specs.declared.demand.Term.{Term}
use Rattle.search.specs.Demand.{term_of, demand_of}
use Rattle.runs.specs.Sums.{sum, one}
use Rattle.runs.specs.model.Accesses.{Access}
use Rattle.runs.specs.model.Legal.{System}

-- one of the first n has q
unfoldable pub any : (ℕ → Bool) → ℕ → Bool
any q zero = false
any q (suc n) = q n || any q n

-- the largest of the first n, and 0 where there is none
unfoldable pub largest : (ℕ → ℕ) → ℕ → ℕ
largest f zero = 0
largest f (suc n) = max (f n) (largest f n)

-- over the affected tasks: the tasks k with j < k ≤ i
abbrev pub largest_below : (ℕ → ℕ) → ℕ → ℕ → ℕ
largest_below f i j = largest (λ d. f (suc (j + d))) (i - j)

abbrev pub sum_below : (ℕ → ℕ) → ℕ → ℕ → ℕ
sum_below f i j = sum (λ d. f (suc (j + d))) (i - j)

-- the cache sets that a task k ≤ j uses
abbrev pub used_above : System → ℕ → ℕ → Bool
used_above s j c = any (λ k. (s.tasks k).evicting c) (suc j)

-- what an access adds to the affected tasks: its useful blocks, where j is above its ceiling and may pre-empt it
abbrev pub added : Access → ℕ → ℕ → ℕ
added x j c = elim (ltb j x.ceiling) [ true ↦ x.useful c | false ↦ 0 ]

-- the four counts
pub data Count : Type 0 where
  by_ecb : Count
  by_ucb : Count
  by_ucb_union : Count
  by_ecb_union : Count

-- the reloads that a release of the task at j costs those below it down to i, and one more with the useful blocks X. `by_ecb`: W for each cache set that j
-- uses. `by_ucb`: the largest, over the affected tasks, of all that is useful. `by_ucb_union`: in each cache set that j uses, what the affected tasks find
-- useful, and at most W. `by_ecb_union`: the largest, over the affected tasks, of what is useful where j or one above uses the cache set
unfoldable pub charge : System → (ℕ → ℕ) → Count → ℕ → ℕ → ℕ
charge s X by_ecb i j = s.ways * sum (λ c. one ((s.tasks j).evicting c)) s.sets
charge s X by_ucb i j = max (largest_below (λ k. sum (s.tasks k).useful s.sets) i j) (sum X s.sets)
charge s X by_ucb_union i j = sum (λ c. one ((s.tasks j).evicting c) * min s.ways (sum_below (λ k. (s.tasks k).useful c) i j + X c)) s.sets
charge s X by_ecb_union i j =
    max (largest_below (λ k. sum (λ c. one (used_above s j c) * (s.tasks k).useful c) s.sets) i j) (sum (λ c. one (used_above s j c) * X c) s.sets)

-- what the task at j asks for, where each of its releases costs `g j` reloads beside its work
abbrev pub term_charged : System → (ℕ → ℕ) → ℕ → Term
term_charged s g j = term_of (s.tasks j).period (s.tasks j).jitter ((s.tasks j).cost + s.brt * g j)

-- the access may block the task at i: its task is below i, and its ceiling is not
abbrev pub CanBlock : Access → ℕ → Type 0
CanBlock x i = (i < x.task) × (x.ceiling ≤ i)

-- R is an answer of the equation for the task at i: for each access that may block it, R is no less than an r that covers the demand with that
-- access alone, its length and its useful blocks; where there is none, R covers the plain demand. The largest of the least solutions is such an R
pub record Answers (s : System) (m : Count) (i R : ℕ) : Type 0 where
  pub each : (q : ℕ) → q < s.many → CanBlock (s.accesses q) i
      → (r : ℕ) × (r ≤ R) × (demand_of ((s.tasks i).cost + (s.accesses q).length) (term_charged s (λ j. charge s (added (s.accesses q) j) m i j)) i r ≤ r)
  pub none : ((q : ℕ) → q < s.many → CanBlock (s.accesses q) i → ⊥) → demand_of (s.tasks i).cost (term_charged s (λ j. charge s (λ c. 0) m i j)) i R ≤ R
