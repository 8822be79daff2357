-- What a search from the front has passed.
use Rattle.std.proofs.Common.{ℕ, ◌+◌, ◌<◌, ◌≤◌, ◌≡◌, List, arith, eq-eqb, ne_eqb, lt-ltb, le-ltb, eqb, length, get_or, drop}
use Rattle.std.specs.Prelude.{Some, None, position}
use Rattle.std.specs.List.{position_or_len}
use Rattle.texts.proofs.Left.{left-cons}

abbrev place : ℕ → List ℕ → ℕ
place c s = position_or_len (λ b. eqb b c) s

-- the first i bytes hold no c
pub record Scanned (c : ℕ) (s : List ℕ) (i : ℕ) : Type 0 where
  pub fits : i ≤ length s
  pub counts : i + place c (drop i s) ≡ place c s

module _ {c : ℕ} {s : List ℕ} {i : ℕ} (p : Scanned c s i) where
  pub step : {j : ℕ} → j ≡ i + 1 → i < length s → (get_or s i 0 ≡ c → ⊥) → Scanned c s j
  step e h n = rw e (record { fits = omega arith; counts = omega (arith, rw (left-cons s i h, ne_eqb _ _ n) at p.counts) })

  pub stop : i < length s → get_or s i 0 ≡ c → Some i ≡ position (λ b. eqb b c) s
  stop h e =
      let at : place c s ≡ i = omega (arith, rw (left-cons s i h, eq-eqb _ _ e) at p.counts) in
      rw (at, lt-ltb i (length s) h)

  pub end : length s ≤ i → None ≡ position (λ b. eqb b c) s
  end h =
      let at : length s ≤ place c s = omega (arith, p.counts) in
      rw (le-ltb (place c s) (length s) at)
