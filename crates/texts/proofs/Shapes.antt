-- Whether a line has a shape, told from its fields, which are read one after the other.
use Rattle.std.proofs.Common.{ℕ, suc, ◌≡◌, refl, Bool, true, false, ◌&&◌, List, [], ◌∷◌, arith, ne_eqb, eq-eqb, ◌==◌, length}
use Rattle.std.specs.Str.{bytes_eq}
use Rattle.texts.specs.Cut.{fields, field_count}
use Rattle.texts.specs.Fields.{has_shape}

and-false : (a : Bool) → (a && false) ≡ false
and-false true = refl
and-false false = refl

-- a line with another number of fields has not the shape
pub other_count : (letter : List ℕ) (n : ℕ) (line : List ℕ) → (length (fields line) ≡ n → ⊥) → has_shape letter n line ≡ false
unfolding has_shape
other_count letter n line h = rw (ne_eqb (length (fields line)) n h) (and-false _)

-- one with another first field neither
pub other_letter : (letter : List ℕ) (n : ℕ) (line k : List ℕ) (rest : List (List ℕ)) → fields line ≡ k ∷ rest → bytes_eq k letter ≡ false → has_shape letter n line ≡ false
unfolding has_shape
other_letter letter n line k rest e h = rw (e, h)

-- and one with this first field and as many fields has it
pub shaped : (letter : List ℕ) (n : ℕ) (line k : List ℕ) (rest : List (List ℕ)) → fields line ≡ k ∷ rest → bytes_eq k letter ≡ true → suc (length rest) ≡ n → has_shape letter n line ≡ true
unfolding has_shape
shaped letter n line k rest e h l = rw (e, h, eq-eqb (suc (length rest)) n l)

-- a line has so many fields, or not
pub other_number : (n : ℕ) (line : List ℕ) → (length (fields line) ≡ n → ⊥) → (field_count line == n) ≡ false
other_number n line h = ne_eqb (length (fields line)) n h

pub no-length : {X : Type 0} (l : List X) → length l ≡ 0 → l ≡ []
no-length [] h = refl
no-length (x ∷ l) h = absurd (omega arith)
