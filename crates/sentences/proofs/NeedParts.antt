-- The parts of a need, one by one, and what their ticks come to.
use Rattle.std.proofs.Common.{◌≡◌, ℕ, ◌+◌, List, [], ◌∷◌, ◌++◌, map, ap, sym, refl, add-zero, ◌∙◌, arith}
use Rattle.std.proofs.lemmas.List.{map-append}
use Rattle.std.proofs.lemmas.List.Sums.{sum_by-cons}
use Rattle.std.specs.Prelude.{sum_by}
use Rattle.search.specs.Positions.{between, fold_by}
use Rattle.search.proofs.PositionLaws.{map_next}
use Rattle.sentences.specs.declared.sums.Part.{Part}
use Rattle.sentences.specs.Sums.{Told, told_part, told_parts}

pub two-parts : (parts : List Part) (one other : Part) (a b : Told) → parts ≡ ([] ++ one ∷ []) ++ other ∷ [] → told_part one ≡ a → told_part other ≡ b → told_parts parts ≡ a ∷ b ∷ []
two-parts parts one other a b e p q = ap told_parts e ∙ ap (λ (t : Told). t ∷ told_part other ∷ []) p ∙ ap (λ (t : Told). a ∷ t ∷ []) q

-- a part more, which is that of the next position
pub parts-more : (parts after : List Part) (part : Part) (a b : Told) (f : ℕ → Told) (j : ℕ) → after ≡ parts ++ part ∷ [] → told_part part ≡ f j
    → told_parts parts ≡ a ∷ b ∷ map f (between 0 j) → told_parts after ≡ a ∷ b ∷ map f (between 0 (j + 1))
parts-more parts after part a b f j e p so_far =
    ap told_parts e ∙ map-append told_part parts (part ∷ []) ∙ ap (λ (ts : List Told). ts ++ told_part part ∷ []) so_far
    ∙ ap (λ (t : Told). a ∷ b ∷ (map f (between 0 j) ++ t ∷ [])) p ∙ ap (λ (ts : List Told). a ∷ b ∷ ts) (sym (map_next f j))

-- ---- what they come to

pub ticks-told : (parts : List Part) → sum_by (λ part. part.ticks) parts ≡ sum_by (λ t. t.ticks) (told_parts parts)
ticks-told [] = refl
ticks-told (part ∷ parts) =
    sum_by-cons (λ (p : Part). p.ticks) part parts ∙ ap (λ (n : ℕ). part.ticks + n) (ticks-told parts)
    ∙ sym (sum_by-cons (λ (t : Told). t.ticks) (told_part part) (told_parts parts))

pub folded : (own : ℕ) (f : ℕ → Told) (ks : List ℕ) → fold_by ◌+◌ own (λ k. (f k).ticks) ks ≡ own + sum_by (λ t. t.ticks) (map f ks)
unfolding fold_by
folded own f [] = sym (add-zero own)
folded own f (k ∷ ks) = omega (arith, folded (own + (f k).ticks) f ks, sum_by-cons (λ (t : Told). t.ticks) (f k) (map f ks))
