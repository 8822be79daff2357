-- Whether line 1 has its shape, told from its fields.
use Rattle.std.proofs.Common.{ℕ, suc, ◌≡◌, refl, Bool, true, false, ◌||◌, List, ◌∷◌, ◌⊎◌, inl, inr, length, codes}
use Rattle.std.specs.Str.{bytes_eq}
use Rattle.texts.specs.Cut.{fields}
use Rattle.table.specs.HeadLine.{is_head}
use Rattle.texts.proofs.Shapes.{other_count, other_letter, shaped}

-- the number of fields is not the one, and not the other
pub head-count : (line : List ℕ) → (length (fields line) ≡ 3 → ⊥) × (length (fields line) ≡ 4 → ⊥) → is_head line ≡ false
unfolding is_head
head-count line h = rw (other_count (codes "K") 3 line h.0, other_count (codes "K") 4 line h.1)

pub head-letter : (line k : List ℕ) (rest : List (List ℕ)) → fields line ≡ k ∷ rest → bytes_eq k (codes "K") ≡ false → is_head line ≡ false
unfolding is_head
head-letter line k rest e h = rw (other_letter (codes "K") 3 line k rest e h, other_letter (codes "K") 4 line k rest e h)

or-true : (a : Bool) → (a || true) ≡ true
or-true true = refl
or-true false = refl

pub head-shaped : (line k : List ℕ) (rest : List (List ℕ)) → fields line ≡ k ∷ rest → bytes_eq k (codes "K") ≡ true
    → (suc (length rest) ≡ 3) ⊎ (suc (length rest) ≡ 4) → is_head line ≡ true
unfolding is_head
head-shaped line k rest e h (inl l) = rw (shaped (codes "K") 3 line k rest e h l)
head-shaped line k rest e h (inr l) = rw (shaped (codes "K") 4 line k rest e h l) (or-true _)
