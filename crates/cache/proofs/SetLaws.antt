-- Laws of sets of cache sets and of their sizes.
use Rattle.std.proofs.Common.{◌≡◌, refl, ap, ap₂, ◌∙◌, Bool, true, false, cond, ◌&&◌, ◌||◌, ℕ, zero, suc, ◌+◌, ◌≤◌, zero-le, le_refl, add-le-add, arith}
use Rattle.std.proofs.Math.Bool.{or_comm, or_assoc, or_self}
use Rattle.std.proofs.Math.Path.{fun_ext}
use Rattle.cache.specs.Sets.{Set, ∅, ◌∪◌, ◌∩◌, ◌⊆◌, size_below, size}

-- ---- union: the order, the grouping and repetitions do not matter

pub union_comm : (A B : Set) → (A ∪ B) ≡ (B ∪ A)
unfolding ◌∪◌
union_comm A B = fun_ext (λ s. or_comm (A s) (B s))

pub union_assoc : (A B C : Set) → (A ∪ B ∪ C) ≡ (A ∪ (B ∪ C))
unfolding ◌∪◌
union_assoc A B C = fun_ext (λ s. or_assoc (A s) (B s) (C s))

pub union_self : (A : Set) → (A ∪ A) ≡ A
unfolding ◌∪◌
union_self A = fun_ext (λ s. or_self (A s))

pub union-empty : (A : Set) → (∅ ∪ A) ≡ A
unfolding ∅ ◌∪◌
union-empty A = refl

-- ---- subsets

pub and_left : (a b : Bool) → (a && b) ≡ true → a ≡ true
and_left true b h = refl
and_left false b h = h

pub and_right : (a b : Bool) → (a && b) ≡ true → b ≡ true
and_right true b h = h
and_right false b h = cc

both_true : (a b : Bool) → a ≡ true → b ≡ true → (a && b) ≡ true
both_true a b p q = ap₂ ◌&&◌ p q

pub inter_left : (A B : Set) → A ∩ B ⊆ A
unfolding ◌∩◌
inter_left A B s = and_left (A s) (B s)

pub inter_right : (A B : Set) → A ∩ B ⊆ B
unfolding ◌∩◌
inter_right A B s = and_right (A s) (B s)

pub inter-mono : (A A' B B' : Set) → A ⊆ A' → B ⊆ B' → A ∩ B ⊆ A' ∩ B'
unfolding ◌∩◌
inter-mono A A' B B' p q s h = both_true (A' s) (B' s) (p s (inter_left A B s h)) (q s (inter_right A B s h))

or_left : (a b : Bool) → a ≡ true → (a || b) ≡ true
or_left a b p = ap (λ (x : Bool). x || b) p

pub union_left : (A B : Set) → A ⊆ A ∪ B
unfolding ◌∪◌
union_left A B s = or_left (A s) (B s)

pub union_right : (A B : Set) → B ⊆ A ∪ B
unfolding ◌∪◌
union_right A B s h = or_comm (A s) (B s) ∙ or_left (B s) (A s) h

or-least : (a b c : Bool) → (a ≡ true → c ≡ true) → (b ≡ true → c ≡ true) → (a || b) ≡ true → c ≡ true
or-least true b c p q h = p refl
or-least false b c p q h = q h

pub union-least : (A B C : Set) → A ⊆ C → B ⊆ C → A ∪ B ⊆ C
unfolding ◌∪◌
union-least A B C p q s = or-least (A s) (B s) (C s) (p s) (q s)

pub empty-least : (A : Set) → ∅ ⊆ A
unfolding ∅
empty-least A s h = cc

-- ---- sizes: a law that holds at each cache set holds of the counts

mark-split : (u a b : Bool) → cond (u && (a || b)) 1 0 + cond (u && a && b) 1 0 ≡ cond (u && a) 1 0 + cond (u && b) 1 0
mark-split true true true = refl
mark-split true true false = refl
mark-split true false true = refl
mark-split true false false = refl
mark-split false a b = refl

mark-le : (a : Bool) → cond a 1 0 ≤ 1
mark-le true = le_refl 1
mark-le false = zero-le

mark-mono : (a b : Bool) → (a ≡ true → b ≡ true) → cond a 1 0 ≤ cond b 1 0
mark-mono true b h = rw (h refl) (le_refl 1)
mark-mono false b h = zero-le

size-below-split : (n : ℕ) (U A B : Set) → size_below n (U ∩ (A ∪ B)) + size_below n (U ∩ A ∩ B) ≡ size_below n (U ∩ A) + size_below n (U ∩ B)
unfolding size_below ◌∪◌ ◌∩◌
size-below-split zero U A B = refl
size-below-split (suc n) U A B = omega (arith, size-below-split n U A B, mark-split (U n) (A n) (B n))

size-below-mono : (n : ℕ) (A B : Set) → A ⊆ B → size_below n A ≤ size_below n B
unfolding size_below
size-below-mono zero A B h = zero-le
size-below-mono (suc n) A B h = add-le-add (size-below-mono n A B h) (mark-mono (A n) (B n) (h n))

size-below-le : (n : ℕ) (A : Set) → size_below n A ≤ n
unfolding size_below
size-below-le zero A = zero-le
size-below-le (suc n) A = omega (arith, size-below-le n A, mark-le (A n))

pub size-split : (U A B : Set) → size (U ∩ (A ∪ B)) + size (U ∩ A ∩ B) ≡ size (U ∩ A) + size (U ∩ B)
unfolding size
size-split = size-below-split 256

pub size_mono : (A B : Set) → A ⊆ B → size A ≤ size B
unfolding size
size_mono = size-below-mono 256

pub size-le : (A : Set) → size A ≤ 256
unfolding size
size-le = size-below-le 256

pub size_none : size ∅ ≡ 0
unfolding ∅ size size_below
size_none = refl

pub size-inter-left : (A B : Set) → size (A ∩ B) ≤ size A
size-inter-left A B = size_mono (A ∩ B) A (inter_left A B)

pub size-inter-right : (A B : Set) → size (A ∩ B) ≤ size B
size-inter-right A B = size_mono (A ∩ B) B (inter_right A B)

pub size-inter-mono : (A A' B B' : Set) → A ⊆ A' → B ⊆ B' → size (A ∩ B) ≤ size (A' ∩ B')
size-inter-mono A A' B B' p q = size_mono (A ∩ B) (A' ∩ B') (inter-mono A A' B B' p q)
