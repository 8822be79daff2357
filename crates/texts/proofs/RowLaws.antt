-- What a value that is judged by rows of conditions is.
use Rattle.std.proofs.Common.{ℕ, ◌≡◌, refl, Bool, true, false, cond, [], ◌∷◌, arith}
use Rattle.std.specs.Prelude.{Ok, Err}
use Rattle.texts.specs.declared.refusals.Fault.{Fault}
use Rattle.texts.specs.Rows.{Conditions, unless_fault}

module _ {X Y : Type 0} where
  -- the refusal does not depend on what is judged
  pub fault-any : (rows : Conditions) (x : X) (y : Y) {e : Fault} → unless_fault rows x ≡ Err e → unless_fault rows y ≡ Err e
  unfolding unless_fault
  fault-any [] x y {e} h = let z : ◌≡◌ {A = ℕ} 0 1 = cc in absurd (omega arith)
  fault-any (r ∷ rows) x y {e} h = go r.0 h (fault-any rows x y)
    where
      go : (t : Bool) → cond t (Err r.1) (unless_fault rows x) ≡ Err e → (unless_fault rows x ≡ Err e → unless_fault rows y ≡ Err e) → cond t (Err r.1) (unless_fault rows y) ≡ Err e
      go true k f = let same : r.1 ≡ e = cc in cc
      go false k f = f k

  -- and where there is none, each value stands as it is
  pub fine-any : (rows : Conditions) (x : X) (y : Y) {z : X} → unless_fault rows x ≡ Ok z → (z ≡ x) × (unless_fault rows y ≡ Ok y)
  unfolding unless_fault
  fine-any [] x y {z} h = let same : z ≡ x = cc in (same, refl)
  fine-any (r ∷ rows) x y {z} h = go r.0 h (fine-any rows x y)
    where
      go : (t : Bool) → cond t (Err r.1) (unless_fault rows x) ≡ Ok z → (unless_fault rows x ≡ Ok z → (z ≡ x) × (unless_fault rows y ≡ Ok y)) → (z ≡ x) × (cond t (Err r.1) (unless_fault rows y) ≡ Ok y)
      go true k f = let z : ◌≡◌ {A = ℕ} 0 1 = cc in absurd (omega arith)
      go false k f = f k

-- where no condition of several rows is met, the first is not, and those behind it are not
pub fine-row : {X : Type 0} (t : Bool) (fault : Fault) (rows : Conditions) (x z : X) → unless_fault ((t, fault) ∷ rows) x ≡ Ok z → (t ≡ false) × (unless_fault rows x ≡ Ok z)
unfolding unless_fault
fine-row true fault rows x z e = let q : ◌≡◌ {A = ℕ} 0 1 = cc in absurd (omega arith)
fine-row false fault rows x z e = (refl, e)
