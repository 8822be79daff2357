-- The digits of a number: how they follow from one another, how many there are, and how they are put where they belong.
use Rattle.std.proofs.Common.{◌≡◌, refl, sym, ap, ◌∙◌, ℕ, zero, suc, ◌+◌, ◌*◌, ◌/◌, ◌%◌, ◌^◌, ◌≤◌, ◌<◌, List, [], ◌∷◌, ◌++◌, length, drop, length-append, append_assoc, arith, pow-suc, mod-eq_of_lt, add-one, lt-ltb, le-ltb, shr-shr}
use Rattle.std.proofs.Math.Decide.{dec_lt}
use Rattle.std.proofs.Math.ListN.{set}
use Rattle.std.proofs.lemmas.List.{drop-set}
use Rattle.writing.specs.Text.{digit_byte, digits_of, spelled, hex_byte, hex_digits}

digits_low : (k n : ℕ) → n < 10 → digits_of (suc k) n ≡ digit_byte n ∷ []
unfolding digits_of
digits_low k n h = rw (lt-ltb n 10 h, digits_of)

digits_high : (k n : ℕ) → 10 ≤ n → digits_of (suc k) n ≡ digits_of k (n / 10) ++ (digit_byte (n % 10) ∷ [])
unfolding digits_of
digits_high k n h = rw (le-ltb n 10 h, digits_of)

-- two bounds that are both large enough give the same digits
enough : (j k n : ℕ) → n < j → n < k → digits_of j n ≡ digits_of k n
enough zero k n p q = absurd (omega arith)
enough (suc j) zero n p q = absurd (omega arith)
enough (suc j) (suc k) n p q =
    elim (dec_lt n 10) [
      | yes h ↦ digits_low j n h ∙ sym (digits_low k n h)
      | no h ↦
          let high : 10 ≤ n = omega arith in
          digits_high j n high ∙ rw (enough j k (n / 10) (omega arith) (omega arith)) (sym (digits_high k n high))
    ]

pub spelled_low : (n : ℕ) → n < 10 → spelled n ≡ digit_byte n ∷ []
unfolding spelled
spelled_low n h = digits_low n n h

pub spelled_high : (n : ℕ) → 10 ≤ n → spelled n ≡ spelled (n / 10) ++ (digit_byte (n % 10) ∷ [])
unfolding spelled
spelled_high n h = digits_high n n h ∙ rw (enough n (suc (n / 10)) (n / 10) (omega arith) (omega arith))

-- what holds of one digit, and of a number where it holds of the digits before its last, holds of every number
module _ (P : ℕ → Type 0) (low : (n : ℕ) → n < 10 → P n) (high : (n : ℕ) → 10 ≤ n → P (n / 10) → P n) where
  below : (k n : ℕ) → n < k → P n
  below zero n h = absurd (omega arith)
  below (suc k) n h = elim (dec_lt n 10) [ yes l ↦ low n l | no l ↦ high n (omega arith) (below k (n / 10) (omega arith)) ]

  pub by_digits : (n : ℕ) → P n
  by_digits n = below (suc n) n (omega arith)

-- a number below 10 ^ (k + 1) has at most k + 1 digits
pub spelled_short : (k n : ℕ) → n < 10 ^ suc k → length (spelled n) ≤ suc k
spelled_short zero n h = rw (spelled_low n (omega arith)) (omega arith)
spelled_short (suc k) n h =
    elim (dec_lt n 10) [
      | yes low ↦ rw (spelled_low n low) (omega arith)
      | no high ↦
          rw (spelled_high n (omega arith), length-append) (omega (arith, spelled_short k (n / 10) (omega (arith, pow-suc 10 (suc k)))))
    ]

-- ---- digits that are put where they belong, the last first

-- the lowest k decimal digits of a number, the most significant first
unfoldable pub decimal_digits : ℕ → ℕ → List ℕ
decimal_digits zero n = []
decimal_digits (suc k) n = decimal_digits k (n / 10) ++ (digit_byte (n % 10) ∷ [])

-- what is spelled is its lowest digits, as many as it has
pub spelled_digits : (n : ℕ) → decimal_digits (length (spelled n)) n ≡ spelled n
unfolding decimal_digits
spelled_digits n = by_digits (λ m. decimal_digits (length (spelled m)) m ≡ spelled m) low high n
  where
    low : (m : ℕ) → m < 10 → decimal_digits (length (spelled m)) m ≡ spelled m
    low m h = rw (spelled_low m h, mod-eq_of_lt h) refl

    high : (m : ℕ) → 10 ≤ m → decimal_digits (length (spelled (m / 10))) (m / 10) ≡ spelled (m / 10) → decimal_digits (length (spelled m)) m ≡ spelled m
    high m h e = rw (spelled_high m h, length-append, add-one, e) refl

pub decimal_more : (xs : List ℕ) (k n : ℕ) → k < length xs → decimal_digits k (n / 10) ++ drop k (set xs k (digit_byte (n % 10))) ≡ decimal_digits (k + 1) n ++ drop (k + 1) xs
unfolding decimal_digits
decimal_more xs k n h = rw (drop-set xs k (digit_byte (n % 10)) h, add-one k) (sym (append_assoc (decimal_digits k (n / 10)) (digit_byte (n % 10) ∷ []) (drop (suc k) xs)))

-- one digit more at the end, of a number of which the digits before are written
pub hex_more : (k n j : ℕ) → hex_digits k (n / 2 ^ (4 * (j + 1))) ++ (hex_byte (n / 2 ^ (4 * j) % 16) ∷ []) ≡ hex_digits (k + 1) (n / 2 ^ (4 * j))
unfolding hex_digits
hex_more k n j = ap (λ (x : ℕ). hex_digits k x ++ (hex_byte (n / 2 ^ (4 * j) % 16) ∷ [])) up ∙ rw (add-one k)
  where
    up : n / 2 ^ (4 * (j + 1)) ≡ n / 2 ^ (4 * j) / 16
    up = let e : 4 * (j + 1) ≡ 4 * j + 4 = omega arith in rw e (sym (shr-shr n (4 * j) 4))
