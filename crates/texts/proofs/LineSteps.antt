-- The lines of a text, one at a time: the part before the first LF, and the lines of the part after it; and how many they are at most.
use Rattle.std.proofs.Common.{ℕ, suc, ◌<◌, ◌≤◌, zero-le, suc-le-suc, ◌≡◌, refl, ap, arith, Bool, true, false, cond, List, [], ◌∷◌, not-suc-le-zero, eqb, eqb-true, length}
use Rattle.std.proofs.lemmas.Bool.{eqb-false}
use Rattle.texts.specs.Cut.{up_to, after, lead, lines}

pub lines_step : (s : List ℕ) → 0 < length s → lines s ≡ up_to 10 s ∷ lines (after 10 s)
unfolding up_to after lines
lines_step [] h = absurd (not-suc-le-zero h)
lines_step (b ∷ []) h = go (eqb b 10)
  where
    go : (t : Bool) → cond t ([] ∷ []) ((b ∷ []) ∷ []) ≡ cond t [] (b ∷ []) ∷ lines (cond t [] [])
    go true = refl
    go false = refl
lines_step (b ∷ d ∷ s) h = go (eqb b 10) (lines_step (d ∷ s) (suc-le-suc zero-le))
  where
    go : (t : Bool) → lines (d ∷ s) ≡ up_to 10 (d ∷ s) ∷ lines (after 10 (d ∷ s))
        → cond t ([] ∷ lines (d ∷ s)) (lead b (lines (d ∷ s))) ≡ cond t [] (b ∷ up_to 10 (d ∷ s)) ∷ lines (cond t (d ∷ s) (after 10 (d ∷ s)))
    go true e = refl
    go false e = ap (lead b) e

-- the text has a byte, or no line
pub next-line : (s l below : List ℕ) → eqb (length s) 0 ≡ false → l ≡ up_to 10 s → below ≡ after 10 s → lines s ≡ l ∷ lines below
next-line s l below h p q = rw (p, q) (lines_step s (let n = eqb-false (length s) 0 h in omega arith))

pub no-line : (s : List ℕ) → eqb (length s) 0 ≡ true → lines s ≡ []
unfolding lines
no-line [] h = refl
no-line (b ∷ s) h = let z = eqb-true (suc (length s)) 0 h in absurd (omega arith)

lead-long : (b : ℕ) (ls : List (List ℕ)) → length (lead b ls) ≤ suc (length ls)
lead-long b [] = omega arith
lead-long b (l ∷ ls) = omega arith

-- each line takes a byte
pub lines_long : (s : List ℕ) → length (lines s) ≤ length s
unfolding lines
lines_long [] = omega arith
lines_long (b ∷ s) = go (eqb b 10) (lines_long s)
  where
    go : (t : Bool) → length (lines s) ≤ length s → length (cond t ([] ∷ lines s) (lead b (lines s))) ≤ suc (length s)
    go true h = omega arith
    go false h = omega (arith, lead-long b (lines s))
