-- The smallest whole number that equals its demand, for any demand f : ℕ → ℕ. It is said twice: as a function, which computes and which
-- the contracts cite, and as a relation, which says what the answer means. proofs/LeastLaws.antt has that the two are one.
use Rattle.std.specs.Prelude.{ℕ, zero, suc, min, max, ◌≤◌, ◌<◌, ◌≡◌, Bool, true, false, length, List, slice_index_or, ◌==◌, fold}
use Rattle.search.specs.declared.demand.Response.{Response}
use Rattle.search.specs.declared.demand.Response.TheVariants.{Within, Unschedulable}

-- the first of the k numbers from s on that equals its demand
unfoldable pub first_of : (ℕ → ℕ) → ℕ → ℕ → Response
first_of f s zero = Unschedulable
first_of f s (suc k) = elim (s == f s) [ true ↦ Within (record { 0 = s }) | false ↦ first_of f (suc s) k ]

-- whether an answer is a response
abbrev pub has_response : Response → Bool
has_response (Within t) = true
has_response Unschedulable = false

-- the smallest number up to the limit that equals its demand
unfoldable pub least_of : (ℕ → ℕ) → ℕ → Response
least_of f limit = first_of f 0 (suc limit)

-- what an answer means: R is within the limit, equals its demand, and no smaller whole number does; or none within the limit does
unfoldable pub LeastWithin : (ℕ → ℕ) → ℕ → Response → Type 0
LeastWithin f limit (Within R) = (R.0 ≤ limit) × (R.0 ≡ f R.0) × ((s : ℕ) → s ≡ f s → R.0 ≤ s)
LeastWithin f limit Unschedulable = (s : ℕ) → s ≡ f s → s ≤ limit → ⊥

-- no response time is longer than the longest deadline
abbrev pub AnswerInRange : Response → Type 0
AnswerInRange (Within t) = t.0 ≤ 250000000
AnswerInRange Unschedulable = Unit {0}

-- what the iteration keeps of the time that it has come to: no solution lies below it, and its demand is no less
pub record Reached (f : ℕ → ℕ) (r : ℕ) : Type 0 where
  pub below : (s : ℕ) → s ≡ f s → r ≤ s
  pub rises : r ≤ f r

-- up to when a search has come: to its answer, or where it has none to the limit
abbrev pub end_of : Response → ℕ → ℕ
end_of (Within t) limit = t.0
end_of Unschedulable limit = limit

-- the order of answers: an answer that is no later than another. No answer at all is the latest
unfoldable pub NoLater : Response → Response → Type 0
NoLater (Within a) (Within b) = a.0 ≤ b.0
NoLater (Within a) Unschedulable = Unit {0}
NoLater Unschedulable (Within b) = ⊥
NoLater Unschedulable Unschedulable = Unit {0}

-- the sooner of two answers; where one has no response time, the other
abbrev pub sooner : Response → Response → Response
sooner (Within a) (Within b) = Within (record { 0 = min a.0 b.0 })
sooner (Within a) Unschedulable = Within a
sooner Unschedulable b = b

-- the later of two answers; where one has no response time, none
abbrev pub later : Response → Response → Response
later (Within a) (Within b) = Within (record { 0 = max a.0 b.0 })
later (Within a) Unschedulable = Unschedulable
later Unschedulable b = Unschedulable

-- the latest of some answers
abbrev pub latest_of : List Response → Response
latest_of rs = fold later (Within (record { 0 = 0 })) rs

-- what that means: none of them is later, and it is one of them
pub record IsLatest (rs : List Response) (r : Response) : Type 0 where
  pub each : (n : ℕ) → n < length rs → NoLater (slice_index_or rs n Unschedulable) r
  pub one : (n : ℕ) × (n < length rs) × (slice_index_or rs n Unschedulable ≡ r)
