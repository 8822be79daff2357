-- What word operations do to the set that the words stand for.
use Rattle.std.proofs.Common.{◌≡◌, refl, sym, ap, ap₂, ◌∙◌, Bool, true, false, cond, ◌&&◌, ◌||◌, ℕ, zero, suc, ◌+◌, ◌*◌, ◌/◌, ◌%◌, ◌^◌, ◌≤◌, ◌<◌, mod-lt, div-one, lt_of_lt_of_le, one-add, add-one, arith, pow_mono, shr-shr, shr_lt, bit_and, bit_or, eqb, eqb-true, lit<}
use Rattle.std.proofs.Math.Bool.{and-eq-true_iff}
use Rattle.std.proofs.Math.Arith.{lt-one, digits_lt}
use Rattle.std.proofs.Math.Nat.{zero-div, div-eq_of_lt}
use Rattle.std.proofs.Math.Path.{fun_ext}
use Rattle.std.proofs.Math.Pow.{low, high, split}
use Rattle.std.proofs.lemmas.Nat.{and_block, or_block, and_shr, or_shr, and_mod, or_mod, ones_cat}
use Rattle.std.specs.Int.Count.{ones, ones_step}
use Rattle.cache.specs.declared.sets.CacheSet.{CacheSet}
use Rattle.cache.specs.Sets.{Set, ∅, ◌∪◌, ◌∩◌, size_below, size}
use Rattle.cache.specs.Words.{bits_of, number_of, members, is_part, words_of}

-- The words' range. Where a CacheSet is a parameter, in a local or a call's result, `search rules` finds it.
pub record WordsInRange (c : CacheSet) : Type 0 where
  pub in0 : c.w0 < 2 ^ 64
  pub in1 : c.w1 < 2 ^ 64
  pub in2 : c.w2 < 2 ^ 64
  pub in3 : c.w3 < 2 ^ 64

-- ---- one word operation, done on each word

abbrev pub each : (ℕ → ℕ → ℕ) → CacheSet → CacheSet → CacheSet
each op a b = record { w0 = op a.w0 b.w0; w1 = op a.w1 b.w1; w2 = op a.w2 b.w2; w3 = op a.w3 b.w3 }

-- op works on each run of binary digits apart, and on one digit as f does
module _ (op : ℕ → ℕ → ℕ) (f : Bool → Bool → Bool)
    (block : (k a b r s : ℕ) → r < 2 ^ k → s < 2 ^ k → op (a * 2 ^ k + r) (b * 2 ^ k + s) ≡ op a b * 2 ^ k + op r s)
    (shr : (a b k : ℕ) → op a b / 2 ^ k ≡ op (a / 2 ^ k) (b / 2 ^ k))
    (mod-pow : (a b k : ℕ) → op a b % 2 ^ k ≡ op (a % 2 ^ k) (b % 2 ^ k))
    (digit : (x y : ℕ) → x < 2 → y < 2 → eqb (op x y) 1 ≡ f (eqb x 1) (eqb y 1)) where
  bits-op : (m n s : ℕ) → bits_of (op m n) s ≡ f (bits_of m s) (bits_of n s)
  bits-op m n s =
      ap (λ (x : ℕ). eqb (x % 2) 1) (shr m n s) ∙ ap (λ (x : ℕ). eqb x 1) (mod-pow (m / 2 ^ s) (n / 2 ^ s) 1)
      ∙ digit (m / 2 ^ s % 2) (n / 2 ^ s % 2) (mod-lt (m / 2 ^ s) (lit< tt)) (mod-lt (n / 2 ^ s) (lit< tt))

  number-op : (a b : CacheSet) → WordsInRange a → WordsInRange b → op (number_of a) (number_of b) ≡ number_of (each op a b)
  unfolding number_of
  number-op a b p q =
      block 64 _ _ a.w0 b.w0 p.in0 q.in0
      ∙ ap (λ (x : ℕ). x * 2 ^ 64 + op a.w0 b.w0) (block 64 _ _ a.w1 b.w1 p.in1 q.in1
      ∙ ap (λ (x : ℕ). x * 2 ^ 64 + op a.w1 b.w1) (block 64 _ _ a.w2 b.w2 p.in2 q.in2))

  members-op : (a b : CacheSet) → WordsInRange a → WordsInRange b → members (each op a b) ≡ (λ s. f (members a s) (members b s))
  unfolding members
  members-op a b p q = ap bits_of (sym (number-op a b p q)) ∙ fun_ext (bits-op (number_of a) (number_of b))

and-digit : (x y : ℕ) → x < 2 → y < 2 → eqb (bit_and x y) 1 ≡ (eqb x 1 && eqb y 1)
and-digit zero y p q = refl
and-digit (suc zero) zero p q = refl
and-digit (suc zero) (suc zero) p q = refl
and-digit (suc zero) (suc (suc y)) p q = absurd (omega arith)
and-digit (suc (suc x)) y p q = absurd (omega arith)

or-digit : (x y : ℕ) → x < 2 → y < 2 → eqb (bit_or x y) 1 ≡ (eqb x 1 || eqb y 1)
or-digit zero y p q = refl
or-digit (suc zero) zero p q = refl
or-digit (suc zero) (suc zero) p q = refl
or-digit (suc zero) (suc (suc y)) p q = absurd (omega arith)
or-digit (suc (suc x)) y p q = absurd (omega arith)

pub members-or : (a b : CacheSet) → WordsInRange a → WordsInRange b → members (each bit_or a b) ≡ members a ∪ members b
unfolding ◌∪◌
members-or = members-op bit_or ◌||◌ or_block or_shr or_mod or-digit

pub members-and : (a b : CacheSet) → WordsInRange a → WordsInRange b → members (each bit_and a b) ≡ members a ∩ members b
unfolding ◌∩◌
members-and = members-op bit_and ◌&&◌ and_block and_shr and_mod and-digit

-- a set of which another has all shares all of it
pub part-shared : (a b : CacheSet) → WordsInRange a → WordsInRange b → is_part a b ≡ true → (members a ∩ members b) ≡ members a
part-shared a b p q e =
    let r = (and-eq-true_iff _ _).0 e in
    let s = (and-eq-true_iff _ _).0 r.0 in
    let t = (and-eq-true_iff _ _).0 s.0 in
    let e0 = eqb-true _ _ t.0 in
    let e1 = eqb-true _ _ t.1 in
    let e2 = eqb-true _ _ s.1 in
    let e3 = eqb-true _ _ r.1 in
    let same : each bit_and a b ≡ a = λ i. record { w0 = e0 i; w1 = e1 i; w2 = e2 i; w3 = e3 i } in
    sym (members-and a b p q) ∙ ap members same

-- ---- the size is the sum of the words' counts of ones

size-below-low : (k : ℕ) (A : Set) → size_below (suc k) A ≡ cond (A 0) 1 0 + size_below k (λ s. A (suc s))
unfolding size_below
size-below-low zero A = omega arith
size-below-low (suc k) A = omega (arith, size-below-low k A)

one_bit : (x : ℕ) → x < 2 → cond (eqb x 1) 1 0 ≡ x
one_bit zero h = refl
one_bit (suc zero) h = refl
one_bit (suc (suc x)) h = absurd (omega arith)

low_bit : (n : ℕ) → cond (bits_of n 0) 1 0 ≡ n % 2
low_bit n = one_bit (n / 1 % 2) (mod-lt (n / 1) (lit< tt)) ∙ ap (λ (x : ℕ). x % 2) (div-one n)

pub rest-bits : (n s : ℕ) → bits_of n (suc s) ≡ bits_of (n / 2) s
rest-bits n s = ap (λ (x : ℕ). eqb (x % 2) 1) (ap (λ (e : ℕ). n / 2 ^ e) (sym (one-add s)) ∙ sym (shr-shr n 1 s))

pub size-below-bits : (k n : ℕ) → n < 2 ^ k → size_below k (bits_of n) ≡ ones n
unfolding size_below ones
size-below-bits zero n h = ap ones (sym (lt-one h))
size-below-bits (suc k) n h =
    size-below-low k (bits_of n)
    ∙ ap₂ (λ (x y : ℕ). x + y) (low_bit n) (ap (size_below k) (fun_ext (rest-bits n)) ∙ size-below-bits k (n / 2) (shr_lt k 1 (rw add-one h)))
    ∙ sym (ones_step n)

pub number_lt : (c : CacheSet) → WordsInRange c → number_of c < 2 ^ 256
unfolding number_of
number_lt c p = digits_lt (digits_lt (digits_lt p.in3 p.in2) p.in1) p.in0

ones-number : (c : CacheSet) → WordsInRange c → ones (number_of c) ≡ ones c.w3 + ones c.w2 + ones c.w1 + ones c.w0
unfolding number_of
ones-number c p =
    ones_cat 64 _ c.w0 p.in0
    ∙ ap (λ (x : ℕ). x + ones c.w0) (ones_cat 64 _ c.w1 p.in1
    ∙ ap (λ (x : ℕ). x + ones c.w1) (ones_cat 64 _ c.w2 p.in2))

pub size-members : (c : CacheSet) → WordsInRange c → size (members c) ≡ ones c.w3 + ones c.w2 + ones c.w1 + ones c.w0
unfolding size members
size-members c p = size-below-bits 256 (number_of c) (number_lt c p) ∙ ones-number c p

-- ---- the empty set

-- `CacheSet::EMPTY`, as a goal has it
pub members-empty : members (record { w0 = 0; w1 = 0; w2 = 0; w3 = 0 }) ≡ ∅
unfolding members number_of ∅
members-empty = fun_ext (λ s. ap (λ (x : ℕ). eqb (x % 2) 1) (zero-div (2 ^ s)))

-- ---- the members determine the words, so a contract that says the members leaves no room

bits-inj : (k m n : ℕ) → m < 2 ^ k → n < 2 ^ k → bits_of m ≡ bits_of n → m ≡ n
bits-inj zero m n p q e = lt-one p ∙ sym (lt-one q)
bits-inj (suc k) m n p q e =
    let low : m % 2 ≡ n % 2 = sym (low_bit m) ∙ ap (λ (A : Set). cond (A 0) 1 0) e ∙ low_bit n in
    let rest : bits_of (m / 2) ≡ bits_of (n / 2) = fun_ext (λ s. sym (rest-bits m s) ∙ ap (λ (A : Set). A (suc s)) e ∙ rest-bits n s) in
    let high : m / 2 ≡ n / 2 = bits-inj k (m / 2) (n / 2) (shr_lt k 1 (rw add-one p)) (shr_lt k 1 (rw add-one q)) rest in
    omega arith

-- the words above w, and w
low_word : (h h' w w' : ℕ) → w < 2 ^ 64 → w' < 2 ^ 64 → h * 2 ^ 64 + w ≡ h' * 2 ^ 64 + w' → (h ≡ h') × (w ≡ w')
low_word h h' w w' p q e = omega arith

pub members-inj : (a b : CacheSet) → WordsInRange a → WordsInRange b → members a ≡ members b → a ≡ b
unfolding members number_of
members-inj a b p q e =
    let r₀ = low_word _ _ a.w0 b.w0 p.in0 q.in0 (bits-inj 256 (number_of a) (number_of b) (number_lt a p) (number_lt b q) e) in
    let r₁ = low_word _ _ a.w1 b.w1 p.in1 q.in1 r₀.0 in
    let r₂ = low_word a.w3 b.w3 a.w2 b.w2 p.in2 q.in2 r₁.0 in
    λ i. record { w0 = r₀.1 i; w1 = r₁.1 i; w2 = r₂.1 i; w3 = r₂.0 i }

-- and none is 256 or above, so the size counts them all
pub members-below : (c : CacheSet) → WordsInRange c → (s : ℕ) → 256 ≤ s → members c s ≡ false
unfolding members
members-below c p s h =
    ap (λ (x : ℕ). eqb (x % 2) 1) (div-eq_of_lt (lt_of_lt_of_le (number_lt c p) (pow_mono h)))

-- ---- a number's words

pub words-number : (c : CacheSet) → WordsInRange c → words_of (number_of c) ≡ c
unfolding number_of words_of
words-number c p =
    let e₁ = high ((c.w3 * 2 ^ 64 + c.w2) * 2 ^ 64 + c.w1) 64 p.in0 in
    let e₂ = ap (λ (x : ℕ). x / 2 ^ 64) e₁ ∙ high (c.w3 * 2 ^ 64 + c.w2) 64 p.in1 in
    let e₃ = ap (λ (x : ℕ). x / 2 ^ 64) e₂ ∙ high c.w3 64 p.in2 in
    let r₀ = low _ 64 p.in0 in
    let r₁ = ap (λ (x : ℕ). x % 2 ^ 64) e₁ ∙ low _ 64 p.in1 in
    let r₂ = ap (λ (x : ℕ). x % 2 ^ 64) e₂ ∙ low c.w3 64 p.in2 in
    λ i. record { w0 = r₀ i; w1 = r₁ i; w2 = r₂ i; w3 = e₃ i }

pub number-words : (n : ℕ) → number_of (words_of n) ≡ n
unfolding number_of words_of
number-words n =
    ap (λ (x : ℕ). (x * 2 ^ 64 + n / 2 ^ 64 % 2 ^ 64) * 2 ^ 64 + n % 2 ^ 64) (split (n / 2 ^ 64 / 2 ^ 64) 64)
    ∙ ap (λ (x : ℕ). x * 2 ^ 64 + n % 2 ^ 64) (split (n / 2 ^ 64) 64)
    ∙ split n 64

-- the set that a number's words stand for has the number's bits
pub members-words : (n : ℕ) → members (words_of n) ≡ bits_of n
unfolding members
members-words n = ap bits_of (number-words n)
