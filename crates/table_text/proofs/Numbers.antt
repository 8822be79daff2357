-- A number that is spelled is read as that number.
use Rattle.std.proofs.Common.{ℕ, ◌+◌, ◌-◌, ◌*◌, ◌/◌, ◌%◌, ◌≤◌, ◌<◌, ◌≡◌, refl, ap, ◌∙◌, Bool, true, false, cond, not, ◌&&◌, ◌||◌, List, [], ◌∷◌, ◌++◌, arith, le-leb, ne_eqb, leb, eqb, length, get_or}
use Rattle.std.proofs.Math.Decide.{dec_lt}
use Rattle.std.specs.Prelude.{Option, Some, None, is_some}
use Rattle.std.specs.Char.{is_ascii_digit}
use Rattle.texts.specs.Fields.{read_digits, read_number, is_number, number}
use Rattle.texts.proofs.Spelling.{number-unique}
use Rattle.writing.specs.Text.{digit_byte, spelled}
use Rattle.writing.proofs.Spelling.{spelled_low, spelled_high, spelled_short, by_digits}

-- one digit more at the end
digit-more : (s : List ℕ) (b a v : ℕ) → is_ascii_digit b ≡ true → read_digits a s ≡ Some v → read_digits a (s ++ (b ∷ [])) ≡ Some (v * 10 + (b - 48))
unfolding read_digits
digit-more [] b a v d e = let q : a ≡ v = cc in rw (d, q)
digit-more (c ∷ s) b a v d e = go (is_ascii_digit c) (λ h. digit-more s b (a * 10 + (c - 48)) v d h) e
  where
    go : (t : Bool) → (read_digits (a * 10 + (c - 48)) s ≡ Some v → read_digits (a * 10 + (c - 48)) (s ++ (b ∷ [])) ≡ Some (v * 10 + (b - 48)))
        → cond t (read_digits (a * 10 + (c - 48)) s) None ≡ Some v → cond t (read_digits (a * 10 + (c - 48)) (s ++ (b ∷ []))) None ≡ Some (v * 10 + (b - 48))
    go true ih h = ih h
    go false ih h = let z : ◌≡◌ {A = ℕ} 0 1 = cc in absurd (omega arith)

digit-is : (d : ℕ) → d < 10 → is_ascii_digit (digit_byte d) ≡ true
digit-is d h = rw (le-leb 48 (48 + d) (omega arith), le-leb (48 + d) 57 (omega arith))

pub digits-read : (n : ℕ) → read_digits 0 (spelled n) ≡ Some n
unfolding read_digits
digits-read =
    by_digits (λ n. read_digits 0 (spelled n) ≡ Some n)
    (λ n l. rw (spelled_low n l, digit-is n l) (ap Some (omega arith)))
    (λ n l ih. rw (spelled_high n l) (digit-more (spelled (n / 10)) (digit_byte (n % 10)) 0 (n / 10) (digit-is (n % 10) (omega arith)) ih ∙ ap Some (omega arith)))

-- a number above 0 starts with another digit than 0
record Led (n : ℕ) : Type 0 where
  first : ℕ
  others : List ℕ
  is : spelled n ≡ first ∷ others
  above : 48 < first

leads : (n : ℕ) → 1 ≤ n → Led n
leads =
    by_digits (λ n. 1 ≤ n → Led n)
    (λ n l p. record { first = digit_byte n; others = []; is = spelled_low n l; above = omega arith })
    (λ n l ih p. more n l (ih (omega arith)))
  where
    more : (n : ℕ) → 10 ≤ n → Led (n / 10) → Led n
    more n l led = record {
      first = led.first;
      others = led.others ++ (digit_byte (n % 10) ∷ []);
      is = spelled_high n l ∙ ap (λ (s : List ℕ). s ++ (digit_byte (n % 10) ∷ [])) led.is;
      above = led.above;
    }

pub number_read : (n : ℕ) → n < 1000000000 → read_number (spelled n) ≡ Some n
unfolding read_number
number_read n h = elim (dec_lt n 10) [ yes l ↦ rw (spelled_low n l) (rw (← spelled_low n l) (digits-read n)) | no l ↦ high (leads n (omega arith)) ]
  where
    high : Led n
        → cond (leb 1 (length (spelled n)) && leb (length (spelled n)) 9 && (eqb (length (spelled n)) 1 || not (eqb (get_or (spelled n) 0 0) 48))) (read_digits 0 (spelled n)) None ≡ Some n
    high led =
        let some : 1 ≤ length (spelled n) = rw led.is (omega arith) in
        let first : eqb (get_or (spelled n) 0 0) 48 ≡ false = rw led.is (ne_eqb led.first 48 (λ e. omega (arith, led.above))) in
        passes (eqb (length (spelled n)) 1) (le-leb _ _ some) (le-leb _ _ (spelled_short 8 n h)) first
      where
        passes : (t : Bool) → leb 1 (length (spelled n)) ≡ true → leb (length (spelled n)) 9 ≡ true → eqb (get_or (spelled n) 0 0) 48 ≡ false
            → cond (leb 1 (length (spelled n)) && leb (length (spelled n)) 9 && (t || not (eqb (get_or (spelled n) 0 0) 48))) (read_digits 0 (spelled n)) None ≡ Some n
        passes true a b c = rw (a, b) (digits-read n)
        passes false a b c = rw (a, b, c) (digits-read n)

-- a field that is a number is what is written of the number
pub number-text : (s : List ℕ) → is_number s ≡ true → number s < 1000000000 → s ≡ spelled (number s)
number-text s e h = go (read_number s) refl e
  where
    go : (r : Option ℕ) → read_number s ≡ r → is_some r ≡ true → s ≡ spelled (number s)
    go (Some v) r t = number-unique s (spelled (number s)) v r (number_read (number s) h ∙ r')
      where
        r' : Some (number s) ≡ Some v
        r' = rw r
    go None r t = let z : ◌≡◌ {A = ℕ} 0 1 = cc in absurd (omega arith)
