-- The part before the first c and the part after it, as a start and an end in the text.
use Rattle.std.proofs.Common.{ℕ, suc, ◌+◌, ◌-◌, ◌≤◌, ◌≡◌, refl, sym, ap, ◌∙◌, Bool, true, false, cond, List, [], ◌∷◌, add-one, arith, eqb, length, take, drop, length-drop, drop_of_length-le}
use Rattle.std.proofs.Math.Seq.{take-length}
use Rattle.texts.specs.Cut.{up_to, after}

pub up-to-part : (c : ℕ) (s : List ℕ) → take (length (up_to c s)) s ≡ up_to c s
unfolding up_to
up-to-part c [] = refl
up-to-part c (b ∷ s) = go (eqb b c) (up-to-part c s)
  where
    go : (t : Bool) → take (length (up_to c s)) s ≡ up_to c s → take (length (cond t [] (b ∷ up_to c s))) (b ∷ s) ≡ cond t [] (b ∷ up_to c s)
    go true h = refl
    go false h = ap (λ (l : List ℕ). b ∷ l) h

pub after-part : (c : ℕ) (s : List ℕ) → drop (suc (length (up_to c s))) s ≡ after c s
unfolding up_to after
after-part c [] = refl
after-part c (b ∷ s) = go (eqb b c) (after-part c s)
  where
    go : (t : Bool) → drop (suc (length (up_to c s))) s ≡ after c s → drop (length (cond t [] (b ∷ up_to c s))) s ≡ cond t s (after c s)
    go true h = refl
    go false h = h

pub part-beyond : (c : ℕ) (s : List ℕ) (e : ℕ) → e ≡ length (up_to c s) → take (length s - (e + 1)) (drop (e + 1) s) ≡ after c s
part-beyond c s e h = rw (← length-drop (e + 1) s, take-length, h, add-one) (after-part c s)

pub none-beyond : (c : ℕ) (s : List ℕ) (e : ℕ) → e ≡ length (up_to c s) → length s ≤ e → [] ≡ after c s
none-beyond c s e h k = sym (drop_of_length-le s {i = suc (length (up_to c s))} (omega arith)) ∙ after-part c s
