-- The hex digits of a number: how many there are, and those of a number that is put together from words.
use Rattle.std.proofs.Common.{ℕ, zero, suc, ◌+◌, ◌-◌, ◌*◌, ◌/◌, ◌%◌, ◌^◌, ◌≤◌, ◌<◌, ◌≡◌, refl, sym, ap, ap₂, ◌∙◌, List, [], ◌∷◌, ◌++◌, append_assoc, append-nil, add-zero, div-one, mul_assoc, arith, lit<, length, length-append, pow-add, shr-shr}
use Rattle.std.proofs.Math.Decide.{dec_le}
use Rattle.std.proofs.Math.Nat.{sub-zero, sub-add-eq}
use Rattle.std.proofs.Math.Pow.{high}
use Rattle.cache.specs.declared.sets.CacheSet.{CacheSet}
use Rattle.cache.specs.Words.{number_of}
use Rattle.cache.proofs.WordLaws.{WordsInRange}
use Rattle.writing.specs.Text.{hex_byte, hex_digits}
use Rattle.writing.specs.Marks.{marks_text, bits_in}

pub digits_long : (k n : ℕ) → length (hex_digits k n) ≡ k
unfolding hex_digits
digits_long zero n = refl
digits_long (suc k) n = rw length-append (omega (arith, digits_long k (n / 16)))

-- ---- of a number that is cut in two

no-digits : (n : ℕ) → hex_digits 0 n ≡ []
unfolding hex_digits
no-digits n = refl

-- the digits above the lowest b, and the lowest b
digits-cut : (a b n : ℕ) → hex_digits (a + b) n ≡ hex_digits a (n / 2 ^ (4 * b)) ++ hex_digits b n
unfolding hex_digits
digits-cut a zero n = rw (add-zero a, div-one n, append-nil)
digits-cut a (suc b) n =
    let s : a + suc b ≡ suc (a + b) = omega arith in
    rw (s, digits-cut a b (n / 16)) (append_assoc (hex_digits a (n / 16 / 2 ^ (4 * b))) (hex_digits b (n / 16)) _
    ∙ ap (λ (x : ℕ). hex_digits a x ++ (hex_digits b (n / 16) ++ (hex_byte (n % 16) ∷ []))) (shr-shr n 4 (4 * b) ∙ ap (λ (e : ℕ). n / 2 ^ e) (omega arith)))

-- what stands above the lowest b digits does not show in them
digits_low : (b hi lo : ℕ) → hex_digits b (hi * 2 ^ (4 * b) + lo) ≡ hex_digits b lo
unfolding hex_digits
digits_low zero hi lo = refl
digits_low (suc b) hi lo =
    let p = hi * 2 ^ (4 * b) in
    let e : hi * 2 ^ (4 * suc b) ≡ p * 16 = ap (λ (x : ℕ). hi * 2 ^ x) (omega arith) ∙ ap (λ (x : ℕ). hi * x) (pow-add 2 (4 * b) 4) ∙ sym (mul_assoc hi (2 ^ (4 * b)) 16) in
    let d : (hi * 2 ^ (4 * suc b) + lo) / 16 ≡ p + lo / 16 = omega arith in
    let m : (hi * 2 ^ (4 * suc b) + lo) % 16 ≡ lo % 16 = omega arith in
    rw (d, m, digits_low b hi (lo / 16))

-- the digits of a word, and the r digits of what stands above it
word_cut : (q r hi lo : ℕ) → r ≡ q - 16 → lo < 2 ^ 64 → hex_digits q (hi * 2 ^ 64 + lo) ≡ hex_digits r hi ++ hex_digits (q - r) lo
word_cut q r hi lo d h = elim (dec_le 16 q) [ yes l ↦ more (omega arith) (omega arith) | no l ↦ within (omega arith) (omega arith) ]
  where
    more : q ≡ r + 16 → q - r ≡ 16 → hex_digits q (hi * 2 ^ 64 + lo) ≡ hex_digits r hi ++ hex_digits (q - r) lo
    more e s =
        ap (λ (x : ℕ). hex_digits x (hi * 2 ^ 64 + lo)) e ∙ digits-cut r 16 (hi * 2 ^ 64 + lo)
        ∙ ap₂ (λ (x : ℕ) (y : List ℕ). hex_digits r x ++ y) (high hi 64 h) (digits_low 16 hi lo ∙ ap (λ (x : ℕ). hex_digits x lo) (sym s))

    within : r ≡ 0 → 64 ≡ 4 * (16 - q) + 4 * q → hex_digits q (hi * 2 ^ 64 + lo) ≡ hex_digits r hi ++ hex_digits (q - r) lo
    within z e =
        let w : hi * 2 ^ 64 ≡ hi * 2 ^ (4 * (16 - q)) * 2 ^ (4 * q) =
        ap (λ (x : ℕ). hi * 2 ^ x) e ∙ ap (λ (x : ℕ). hi * x) (pow-add 2 (4 * (16 - q)) (4 * q)) ∙ sym (mul_assoc hi (2 ^ (4 * (16 - q))) (2 ^ (4 * q))) in
        ap (λ (x : ℕ). hex_digits q (x + lo)) w ∙ digits_low q (hi * 2 ^ (4 * (16 - q))) lo ∙ rw (z, no-digits hi, sub-zero q)

-- ---- the field of a set, word by word

digits_in : (sets k : ℕ) → bits_in sets k / 4 ≡ (sets / 4 - 16 * k) - (sets / 4 - 16 * (k + 1))
unfolding bits_in
digits_in sets k = omega arith

lowest : (sets : ℕ) → bits_in sets 0 / 4 ≡ sets / 4 - (sets / 4 - 16)
unfolding bits_in
lowest sets = omega arith

highest : (sets : ℕ) → sets ≤ 256 → bits_in sets 3 / 4 ≡ sets / 4 - 48
unfolding bits_in
highest sets few = omega arith

pub marks-cut : (sets : ℕ) (c : CacheSet) → sets ≤ 256 → WordsInRange c
    → hex_digits (bits_in sets 3 / 4) c.w3 ++ hex_digits (bits_in sets 2 / 4) c.w2 ++ hex_digits (bits_in sets 1 / 4) c.w1 ++ hex_digits (bits_in sets 0 / 4) c.w0
    ≡ marks_text sets c
unfolding marks_text number_of
marks-cut sets c few p =
    let q = sets / 4 in
    let e₃ : bits_in sets 3 / 4 ≡ q - 48 = highest sets few in
    let e₂ : bits_in sets 2 / 4 ≡ (q - 32) - (q - 48) = digits_in sets 2 in
    let e₁ : bits_in sets 1 / 4 ≡ (q - 16) - (q - 32) = digits_in sets 1 in
    let e₀ : bits_in sets 0 / 4 ≡ q - (q - 16) = lowest sets in
    rw (
      e₃,
      e₂,
      e₁,
      e₀,
      word_cut q (q - 16) _ c.w0 refl p.in0,
      word_cut (q - 16) (q - 32) _ c.w1 (sub-add-eq q 16 16) p.in1,
      word_cut (q - 32) (q - 48) c.w3 c.w2 (sub-add-eq q 32 16) p.in2,
    )

pub marks-long : (sets : ℕ) (c : CacheSet) → length (marks_text sets c) ≡ sets / 4
unfolding marks_text
marks-long sets c = digits_long (sets / 4) (number_of c)

-- so many digits all words together have
pub words_long : (sets : ℕ) → sets ≤ 256 → bits_in sets 3 / 4 + bits_in sets 2 / 4 + bits_in sets 1 / 4 + bits_in sets 0 / 4 ≡ sets / 4
words_long sets few =
    let none : CacheSet = record { w0 = 0; w1 = 0; w2 = 0; w3 = 0 } in
    (simp (length-append, digits_long) at (ap length (marks-cut sets none few (record { in0 = lit< tt; in1 = lit< tt; in2 = lit< tt; in3 = lit< tt })))) ∙ marks-long sets none
