-- What a turn of the hastened iteration knows. Some of the terms are taken by their shares of the processor, which has 2 ^ 34 parts, and the
-- others are counted: what the shares leave has to do the work that is counted.
use Rattle.std.specs.Prelude.{◌≡◌, ℕ, ◌+◌, ◌*◌, ◌≤◌}
use Rattle.search.specs.declared.hasten.Part.{Part}
use Rattle.search.specs.declared.hasten.Turn.{Turn}
use Rattle.search.specs.declared.demand.Term.{Term}
use Rattle.search.specs.Demand.{work_of}
use Rattle.search.specs.Least.{Reached}

-- what a term adds to a bound from below, of `left` parts of the processor: its share of them, or what it asks for at r
pub record PartOf (t : Term) (r left : ℕ) (p : Part) : Type 0 where
  pub work-is : p.work ≡ work_of r t
  pub work-most : p.work ≤ 250000000000000000
  pub counted-most : p.counted ≤ p.work
  pub left-least : 1 ≤ p.left
  pub left-most : p.left ≤ left
  pub extra-most : p.extra + 250000000 * p.left ≤ 250000000 * left
  pub sound : (s : ℕ) → r ≤ s → p.counted * 17179869184 + p.extra + s * left ≤ 17179869184 * work_of s t + s * p.left

-- a turn: the demand, and the next time to try
pub record TurnOf (f : ℕ → ℕ) (r : ℕ) (t : Turn) : Type 0 where
  pub demand-is : t.demand ≡ f r
  pub later : t.demand ≤ t.next
  pub most : t.next ≤ 8600000000000000000
  pub reached : Reached f r → Reached f t.next
