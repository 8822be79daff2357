-- A test that fails at a place is asked of the places behind it.
use Rattle.std.proofs.Common.{◌≡◌, ℕ, suc, ◌+◌, ◌<◌, Bool, false, List, ◌∷◌, ◌||◌, length, drop, get_or, ap, sym, ◌∙◌, add-one, drop-cons}
use Rattle.std.specs.List.{list_any}

pub any-next : {A : Type 0} (f : A → Bool) (xs : List A) (i : ℕ) (d : A) (r : Bool) → i < length xs → f (get_or xs i d) ≡ false → list_any f (drop i xs) ≡ r → list_any f (drop (i + 1) xs) ≡ r
any-next f xs i d r h e p =
    let next : drop i xs ≡ get_or xs i d ∷ drop (suc i) xs = drop-cons xs i d h in
    rw (add-one) (ap (λ (b : Bool). b || list_any f (drop (suc i) xs)) (sym e) ∙ (rw next at p))
