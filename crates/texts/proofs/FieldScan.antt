-- What a scan of two lists from the front has left to do.
use Rattle.std.proofs.Common.{ℕ, suc, ◌+◌, ◌<◌, ◌≤◌, ◌≡◌, refl, ap, Bool, true, false, ◌&&◌, List, [], ◌∷◌, eqb, eq-eqb, ne_eqb, length, get_or, drop, drop_of_length-le}
use Rattle.std.specs.Str.{bytes_eq}
use Rattle.texts.proofs.Left.{left-cons}

module _ (a b : List ℕ) (i : ℕ) where
  pub same-step : i < length a → i < length b → get_or a i 0 ≡ get_or b i 0 → bytes_eq (drop (i + 1) a) (drop (i + 1) b) ≡ bytes_eq (drop i a) (drop i b)
  same-step h k e = rw (left-cons a i h, left-cons b i k, eq-eqb _ _ e)

  pub same-stop : i < length a → i < length b → (get_or a i 0 ≡ get_or b i 0 → ⊥) → false ≡ bytes_eq (drop i a) (drop i b)
  same-stop h k e = rw (left-cons a i h, left-cons b i k, ne_eqb _ _ e)

  pub same-end : length a ≤ i → length b ≤ i → true ≡ bytes_eq (drop i a) (drop i b)
  same-end h k = rw (drop_of_length-le a h, drop_of_length-le b k)

pub same-lengths : (a b : List ℕ) → (length a ≡ length b → ⊥) → false ≡ bytes_eq a b
same-lengths [] [] n = absurd (n refl)
same-lengths [] (c ∷ b) n = refl
same-lengths (c ∷ a) [] n = refl
same-lengths (c ∷ a) (d ∷ b) n = go (eqb c d) (same-lengths a b (λ e. n (ap suc e)))
  where
    go : (t : Bool) → false ≡ bytes_eq a b → false ≡ (t && bytes_eq a b)
    go true h = h
    go false h = refl
