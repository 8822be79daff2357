-- The last lines are short.
use Rattle.std.proofs.Common.{◌≡◌, ℕ, ◌*◌, ◌≤◌, Bool, true, false, List, [], ◌∷◌, ◌++◌, length, length-append, arith, refl}
use Rattle.std.proofs.lemmas.List.Folds.{flat_map-map}
use Rattle.std.specs.Prelude.{flat_map}
use Rattle.writing.specs.Text.{after_tab, yes_no}
use Rattle.lists.specs.declared.Fate.TheVariants.{Judged}
use Rattle.lists.specs.Lists.{fate_text}

field-short : (b : Bool) → length (after_tab (yes_no b)) ≤ 4
field-short true = omega arith
field-short false = omega arith

-- a verdict takes at most four bytes
pub verdicts-short : (vs : List Bool) → length (flat_map (λ v. after_tab (yes_no v)) vs) ≤ 4 * length vs
verdicts-short [] = omega arith
verdicts-short (v ∷ vs) = omega (arith, field-short v, verdicts-short vs, length-append {A = ℕ} (after_tab (yes_no v)) (flat_map (λ v. after_tab (yes_no v)) vs))

-- the line of the verdicts, as it is written
pub judged-text : (vs : List Bool) (draft : List ℕ) → draft ≡ [] → ((draft ++ 86 ∷ []) ++ flat_map (λ v. after_tab (yes_no v)) vs) ++ 10 ∷ [] ≡ fate_text (Judged vs)
unfolding fate_text
judged-text vs draft e = rw (e, flat_map-map after_tab yes_no vs) refl
