-- The field of a set and its reading: what is written is read as the set, and a field that is read as a set is what is written of it.
use Rattle.std.proofs.Common.{ℕ, zero, suc, ◌+◌, ◌-◌, ◌*◌, ◌/◌, ◌%◌, ◌^◌, ◌≤◌, ◌<◌, ◌≡◌, refl, sym, ap, ◌∙◌, subst, Bool, true, false, ◌&&◌, cond, List, [], ◌∷◌, ◌++◌, lt_of_lt_of_le, mod-lt, mod-eq_of_lt, zero-mul, zero-add, arith, leb, ltb, lit<, length, pow-add, pow_mono, pow_pos, shr_lt, ltb-true, ltb-false, lt-ltb, le-leb}
use Rattle.std.proofs.Math.Arith.{lt-one, digits_lt}
use Rattle.std.proofs.Math.Bool.{and-eq-true_iff}
use Rattle.std.proofs.Math.Decide.{dec_le, dec_lt}
use Rattle.std.proofs.Math.Nat.{div-eq_of_lt, sub-add-eq}
use Rattle.std.proofs.lemmas.Bool.{lt-leb}
use Rattle.cache.specs.Hex.{hex_digit, read_hex}
use Rattle.cache.proofs.HexLaws.{read-lt, read-cut}
use Rattle.cache.specs.declared.sets.CacheSet.{CacheSet}
use Rattle.std.specs.Prelude.{Some, None, option_map}
use Rattle.cache.specs.Field.{read_set}
use Rattle.cache.specs.Words.{number_of, words_of, members}
use Rattle.cache.proofs.WordLaws.{WordsInRange, words-number}
use Rattle.cache.proofs.FieldLaws.{says, right-length, no-bit, one-spelling}
use Rattle.writing.specs.Text.{hex_byte, hex_digits}
use Rattle.writing.specs.Marks.{bits_in, marks_text, marks_fit}
use Rattle.writing.proofs.Digits.{marks-long}

-- ---- digits that are read

digit-read : (d : ℕ) → d < 16 → hex_digit (hex_byte d) ≡ Some d
unfolding hex_digit hex_byte
digit-read d h = go (ltb d 10) refl
  where
    go : (t : Bool) → ltb d 10 ≡ t
        → cond (leb 48 (cond t (48 + d) (87 + d)) && leb (cond t (48 + d) (87 + d)) 57) (Some (cond t (48 + d) (87 + d) - 48))
        (cond (leb 97 (cond t (48 + d) (87 + d)) && leb (cond t (48 + d) (87 + d)) 102) (Some (cond t (48 + d) (87 + d) - 97 + 10)) None)
        ≡ Some d
    go true e =
        let l : d < 10 = ltb-true d 10 e in
        rw (le-leb 48 (48 + d) (omega arith), le-leb (48 + d) 57 (omega arith)) (ap Some (omega arith))
    go false e =
        let l : 10 ≤ d = ltb-false d 10 e in
        rw (le-leb 48 (87 + d) (omega arith), lt-leb (87 + d) 57 (omega arith), le-leb 97 (87 + d) (omega arith), le-leb (87 + d) 102 (omega arith)) (ap Some (omega arith))

read_more : (s : List ℕ) (b d v : ℕ) → hex_digit b ≡ Some d → read_hex 0 s ≡ Some v → read_hex 0 (s ++ (b ∷ [])) ≡ Some (v * 16 + d)
unfolding read_hex
read_more s b d v e h = read-cut s (b ∷ []) 0 0 ∙ rw (h, zero-mul, zero-add, e)

pub digits-read : (k n : ℕ) → n < 2 ^ (4 * k) → read_hex 0 (hex_digits k n) ≡ Some n
unfolding hex_digits read_hex
digits-read zero n h = ap Some (sym (lt-one h))
digits-read (suc k) n h =
    let fewer : n / 16 < 2 ^ (4 * k) = shr_lt (4 * k) 4 (subst (λ (e : ℕ). n < 2 ^ e) (omega arith) h) in
    let last : n % 16 < 16 = mod-lt n (lit< tt) in
    read_more (hex_digits k (n / 16)) (hex_byte (n % 16)) (n % 16) (n / 16) (digit-read (n % 16) last) (digits-read k (n / 16) fewer) ∙ ap Some (omega arith)

-- ---- marks below the number of cache sets, as words and as one number

-- the bits of a word and of what stands above it, of q bits in all
joined-below : (q hi lo : ℕ) → hi < 2 ^ (q - 64) → lo < 2 ^ (q - (q - 64)) → hi * 2 ^ 64 + lo < 2 ^ q
joined-below q hi lo h l = elim (dec_le 64 q) [ yes m ↦ more (omega arith) (omega arith) | no m ↦ within (omega arith) (omega arith) ]
  where
    more : q ≡ (q - 64) + 64 → q - (q - 64) ≡ 64 → hi * 2 ^ 64 + lo < 2 ^ q
    more e s = subst (λ (x : ℕ). hi * 2 ^ 64 + lo < x) (sym (ap (λ (x : ℕ). 2 ^ x) e ∙ pow-add 2 (q - 64) 64)) (digits_lt h (rw s at l))

    within : q - 64 ≡ 0 → q - (q - 64) ≡ q → hi * 2 ^ 64 + lo < 2 ^ q
    within z s = rw (lt-one (rw z at h), zero-mul, zero-add) (rw s at l)

cut_below : (q n : ℕ) → n < 2 ^ q → (n / 2 ^ 64 < 2 ^ (q - 64)) × (n % 2 ^ 64 < 2 ^ (q - (q - 64)))
cut_below q n h = elim (dec_le 64 q) [ yes m ↦ more (omega arith) (omega arith) | no m ↦ within (omega arith) (omega arith) (omega arith) ]
  where
    more : q ≡ (q - 64) + 64 → q - (q - 64) ≡ 64 → (n / 2 ^ 64 < 2 ^ (q - 64)) × (n % 2 ^ 64 < 2 ^ (q - (q - 64)))
    more e s = (shr_lt (q - 64) 64 (rw e at h), rw s (mod-lt n (pow_pos 64)))

    within : q - 64 ≡ 0 → q - (q - 64) ≡ q → q ≤ 64 → (n / 2 ^ 64 < 2 ^ (q - 64)) × (n % 2 ^ 64 < 2 ^ (q - (q - 64)))
    within z s m =
        let small : n < 2 ^ 64 = lt_of_lt_of_le h (pow_mono m) in
        (rw (z, div-eq_of_lt small) (lit< tt), rw (s, mod-eq_of_lt small) h)

-- what the test of the words says
record Fit (sets : ℕ) (c : CacheSet) : Type 0 where
  in0 : c.w0 < 2 ^ bits_in sets 0
  in1 : c.w1 < 2 ^ bits_in sets 1
  in2 : c.w2 < 2 ^ bits_in sets 2
  in3 : c.w3 < 2 ^ bits_in sets 3

fit_of : (sets : ℕ) (c : CacheSet) → marks_fit sets c ≡ true → Fit sets c
unfolding marks_fit
fit_of sets c e =
    let p = (and-eq-true_iff _ _).0 e in
    let q = (and-eq-true_iff _ _).0 p.0 in
    let r = (and-eq-true_iff _ _).0 q.0 in
    record { in0 = ltb-true _ _ r.0; in1 = ltb-true _ _ r.1; in2 = ltb-true _ _ q.1; in3 = ltb-true _ _ p.1 }

fit_is : (sets : ℕ) (c : CacheSet) → Fit sets c → marks_fit sets c ≡ true
unfolding marks_fit
fit_is sets c f = rw (lt-ltb _ _ f.in0, lt-ltb _ _ f.in1, lt-ltb _ _ f.in2, lt-ltb _ _ f.in3)

few_bits : (sets k : ℕ) → bits_in sets k ≤ 64
unfolding bits_in
few_bits sets k = omega arith

fit-range : (sets : ℕ) (c : CacheSet) → Fit sets c → WordsInRange c
fit-range sets c f = record {
  in0 = lt_of_lt_of_le f.in0 (pow_mono (few_bits sets 0));
  in1 = lt_of_lt_of_le f.in1 (pow_mono (few_bits sets 1));
  in2 = lt_of_lt_of_le f.in2 (pow_mono (few_bits sets 2));
  in3 = lt_of_lt_of_le f.in3 (pow_mono (few_bits sets 3));
}

pub marks-range : (sets : ℕ) (c : CacheSet) → marks_fit sets c ≡ true → WordsInRange c
marks-range sets c e = fit-range sets c (fit_of sets c e)

-- the bits of each word, as those that are left above the words below it
module _ (sets : ℕ) where
  bits-w0 : bits_in sets 0 ≡ sets - (sets - 64)
  unfolding bits_in
  bits-w0 = omega arith

  bits-w1 : bits_in sets 1 ≡ (sets - 64) - (sets - 64 - 64)
  unfolding bits_in
  bits-w1 = rw (← sub-add-eq sets 64 64) refl

  bits-w2 : bits_in sets 2 ≡ (sets - 64 - 64) - (sets - 64 - 64 - 64)
  unfolding bits_in
  bits-w2 = rw (← sub-add-eq sets 64 64, ← sub-add-eq sets 128 64) refl

  bits-w3 : sets ≤ 256 → bits_in sets 3 ≡ sets - 64 - 64 - 64
  unfolding bits_in
  bits-w3 few = rw (← sub-add-eq sets 64 64, ← sub-add-eq sets 128 64) (omega arith)

fit-below : (sets : ℕ) (c : CacheSet) → sets ≤ 256 → Fit sets c → number_of c < 2 ^ sets
unfolding number_of
fit-below sets c few f =
    joined-below sets _ c.w0
    (joined-below (sets - 64) _ c.w1
    (joined-below (sets - 64 - 64) c.w3 c.w2 (rw (bits-w3 sets few) at f.in3) (rw (bits-w2 sets) at f.in2))
    (rw (bits-w1 sets) at f.in1))
    (rw (bits-w0 sets) at f.in0)

-- so each of its members is one of so many cache sets
pub marks-below : (sets : ℕ) (c : CacheSet) → sets ≤ 256 → marks_fit sets c ≡ true → (s : ℕ) → members c s ≡ true → s < sets
unfolding members
marks-below sets c few e s m = elim (dec_lt s sets) [
  | yes l ↦ l
  | no l ↦ absurd (no-bit (number_of c) s (lt_of_lt_of_le (fit-below sets c few (fit_of sets c e)) (pow_mono (omega arith))) m)
]

below-fit : (sets n : ℕ) → sets ≤ 256 → n < 2 ^ sets → Fit sets (words_of n)
unfolding words_of
below-fit sets n few h =
    let a = cut_below sets n h in
    let b = cut_below (sets - 64) (n / 2 ^ 64) a.0 in
    let c = cut_below (sets - 64 - 64) (n / 2 ^ 64 / 2 ^ 64) b.0 in
    record { in0 = rw (bits-w0 sets) a.1; in1 = rw (bits-w1 sets) b.1; in2 = rw (bits-w2 sets) c.1; in3 = rw (bits-w3 sets few) c.0 }

pub number-fits : (sets n : ℕ) → sets ≤ 256 → n < 2 ^ sets → marks_fit sets (words_of n) ≡ true
number-fits sets n few h = fit_is sets (words_of n) (below-fit sets n few h)

-- ---- the field and the set

module _ (sets : ℕ) (few : sets ≤ 256) (by-four : sets % 4 ≡ 0) where
  -- the digits that a table of so many cache sets has are as many as its bits
  whole : sets ≡ 4 * (sets / 4)
  whole = omega arith

  -- what is written of a set that fits is read as the set
  pub marks-read : (c : CacheSet) → marks_fit sets c ≡ true → read_set sets (marks_text sets c) ≡ Some c
  unfolding marks_text
  marks-read c e =
      let f = fit_of sets c e in
      right-length (marks_text sets c) sets few (marks-long sets c)
      ∙ ap (option_map words_of) (digits-read (sets / 4) (number_of c) (rw whole at (fit-below sets c few f)))
      ∙ ap Some (words-number c (fit-range sets c f))

  module _ (f : List ℕ) (c : CacheSet) (e : read_set sets f ≡ Some c) where
    -- a set that is read fits
    pub read_fits : marks_fit sets c ≡ true
    read_fits =
        let s = says sets f c e in
        let all : 4 * (0 + length f) ≡ sets = omega (arith, s.long) in
        rw (← s.is) (fit_is sets (words_of s.value) (below-fit sets s.value few (rw all at (read-lt f 0 s.value 0 (lit< tt) s.read))))

    -- and its field is what is written of it
    pub read-text : f ≡ marks_text sets c
    read-text = one-spelling sets f (marks_text sets c) c e (marks-read c read_fits)

-- a set that has no cache set to mark is empty
pub none-fit : (c : CacheSet) → marks_fit 0 c ≡ true → c ≡ record { w0 = 0; w1 = 0; w2 = 0; w3 = 0 }
unfolding bits_in
none-fit c e =
    let f = fit_of 0 c e in
    λ i. record { w0 = lt-one f.in0 i; w1 = lt-one f.in1 i; w2 = lt-one f.in2 i; w3 = lt-one f.in3 i }
