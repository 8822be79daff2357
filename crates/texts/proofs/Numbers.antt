-- The digits of a number, one at a time.
use Rattle.std.proofs.Common.{ℕ, ◌+◌, ◌-◌, ◌*◌, ◌<◌, ◌≤◌, ◌^◌, ◌≡◌, true, false, leb-true, List, pow-suc, add-one, arith, leb, length, get_or, drop, drop_of_length-le}
use Rattle.std.proofs.Math.Bool.{and-eq-true_iff}
use Rattle.std.specs.Prelude.{Some, None}
use Rattle.std.specs.Char.{is_ascii_digit}
use Rattle.texts.specs.Fields.{read_digits}
use Rattle.texts.proofs.Left.{left-cons}

-- what is left to read, at an index of the loop: equal to what was left one byte before
module _ (s : List ℕ) (v i : ℕ) (h : i < length s) where
  pub digits_step : is_ascii_digit (get_or s i 0) ≡ true → read_digits (v * 10 + (get_or s i 0 - 48)) (drop (i + 1) s) ≡ read_digits v (drop i s)
  unfolding read_digits
  digits_step e = rw (left-cons s i h, e)

  pub digits-stop : is_ascii_digit (get_or s i 0) ≡ false → None ≡ read_digits v (drop i s)
  unfolding read_digits
  digits-stop e = rw (left-cons s i h, e)

pub digits-end : (s : List ℕ) (v i : ℕ) → length s ≤ i → Some v ≡ read_digits v (drop i s)
unfolding read_digits
digits-end s v i h = rw (drop_of_length-le s h)

-- one digit more
pub more-digits : (v d i : ℕ) → v < 10 ^ i → d ≤ 9 → v * 10 + d < 10 ^ (i + 1)
more-digits v d i h k = rw (add-one, pow-suc) (omega arith)

pub digit-bounds : (b : ℕ) → is_ascii_digit b ≡ true → (48 ≤ b) × (b ≤ 57)
digit-bounds b e =
    let h = (and-eq-true_iff (leb 48 b) (leb b 57)).0 e in
    (leb-true 48 b h.0, leb-true b 57 h.1)
