-- A union over one position more, at either end.
use Rattle.std.proofs.Common.{ℕ, ◌+◌, ◌≤◌, ◌<◌, ◌≡◌, refl, sym}
use Rattle.cache.specs.Sets.{Set, ∅, ◌∪◌, ◌⊆◌}
use Rattle.cache.proofs.SetLaws.{union_comm, union_assoc, union_left}
use Rattle.search.specs.Positions.{between}
use Rattle.search.proofs.PositionLaws.{fold-none, fold_next, fold-front}
use Rattle.analysis.specs.Gather.{union_of}

module _ (F : ℕ → Set) where
  -- over none
  pub union-none : (from : ℕ) → ∅ ≡ union_of F (between from from)
  union-none from = sym (fold-none ◌∪◌ ∅ F from)

  -- one more at the end
  pub union-next : (from k : ℕ) (so_far it : Set) → from ≤ k → so_far ≡ union_of F (between from k) → it ≡ F k
      → (so_far ∪ it) ≡ union_of F (between from (k + 1))
  union-next from k so_far it h e f = fold_next ◌∪◌ ∅ F from k so_far it h e f

  -- one more in front
  pub union-front : (k to : ℕ) (it below : Set) → k < to → it ≡ F k → below ≡ union_of F (between (k + 1) to)
      → (it ∪ below) ≡ union_of F (between k to)
  union-front k to it below h e f = fold-front ◌∪◌ union_assoc ∅ ∅ F k to it below h (union_comm ∅ (F k)) e f

  -- it holds the union over one position less
  pub union_more : (from k : ℕ) → from ≤ k → union_of F (between from k) ⊆ union_of F (between from (k + 1))
  union_more from k h = rw (← union-next from k _ _ h refl refl) (union_left _ _)
