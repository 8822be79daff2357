-- A test of each number below another.
use Rattle.std.proofs.Common.{◌≡◌, ℕ, zero, suc, ◌+◌, ◌<◌, Bool, true, false, not, ◌&&◌, ◌||◌, leb, inl, inr, refl, sym, ap, ◌∙◌, arith, add-one}
use Rattle.std.proofs.Math.Decide.{dec_lt}
use Rattle.std.proofs.lemmas.Bool.{false≢true}
use Rattle.std.proofs.lemmas.Bool.Decides.{leb_tells}
use Rattle.cache.proofs.SetLaws.{and_left, and_right}
use Rattle.changes.specs.Relations.{holds_below}

pub and-both : (a b : Bool) → a ≡ true → b ≡ true → (a && b) ≡ true
and-both true b e f = f
and-both false b e f = e

and-false : (a b : Bool) → b ≡ false → (a && b) ≡ false
and-false true b e = e
and-false false b e = refl

false-and : (a b : Bool) → a ≡ false → (a && b) ≡ false
false-and true b e = absurd (false≢true (sym e))
false-and false b e = refl

pub none_below : (p : ℕ → Bool) → holds_below 0 p ≡ true
unfolding holds_below
none_below p = refl

pub below_more : (n : ℕ) (p : ℕ → Bool) → holds_below n p ≡ true → p n ≡ true → holds_below (n + 1) p ≡ true
unfolding holds_below
below_more n p e f = rw add-one (and-both (holds_below n p) (p n) e f)

pub fails_below : (n k : ℕ) (p : ℕ → Bool) → k < n → p k ≡ false → holds_below n p ≡ false
unfolding holds_below
fails_below zero k p h e = absurd (omega arith)
fails_below (suc n) k p h e = elim (dec_lt k n) [
  | yes l ↦ false-and (holds_below n p) (p n) (fails_below n k p l e)
  | no l ↦ and-false (holds_below n p) (p n) (let same : n ≡ k = omega arith in ap p same ∙ e)
]

pub below-each : (n : ℕ) (p : ℕ → Bool) → holds_below n p ≡ true → (k : ℕ) → k < n → p k ≡ true
unfolding holds_below
below-each zero p e k h = absurd (omega arith)
below-each (suc n) p e k h = elim (dec_lt k n) [
  | yes l ↦ below-each n p (and_left (holds_below n p) (p n) e) k l
  | no l ↦ (let same : k ≡ n = omega arith in ap p same ∙ and_right (holds_below n p) (p n) e)
]

pub each-below : (n : ℕ) (p : ℕ → Bool) → ((k : ℕ) → k < n → p k ≡ true) → holds_below n p ≡ true
unfolding holds_below
each-below zero p f = refl
each-below (suc n) p f = and-both (holds_below n p) (p n) (each-below n p (λ k h. f k (omega arith))) (f n (omega arith))

-- ---- a test that fails

pub not-leb : (a b : ℕ) → b < a → leb a b ≡ false
not-leb a b h = elim (leb_tells a b) [ inl p ↦ absurd (omega (arith, p.1)) | inr p ↦ p.0 ]

pub implies-fails : (a b : Bool) → true ≡ a → false ≡ b → (not a || b) ≡ false
implies-fails true b e f = sym f
implies-fails false b e f = absurd (false≢true (sym e))
