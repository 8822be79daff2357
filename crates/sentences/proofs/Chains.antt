-- The last write of several, that may fail as they may.
use Rattle.std.proofs.Common.{◌≡◌, ◌∙◌, List, ◌++◌, Result, Ok, Err, ℕ}
use Rattle.std.specs.Prelude.{OnOk}

pub last-write : {E : Type 0} (r : Result Unit E) (after before whole : List ℕ) {so_far : List ℕ} → OnOk r (after ≡ so_far) → so_far ≡ before ++ whole → OnOk r (after ≡ before ++ whole)
last-write (Ok done) after before whole p e = p ∙ e
last-write (Err e) after before whole p q = tt
