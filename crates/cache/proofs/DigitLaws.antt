-- Laws of digits that count useful blocks: one level of them as a number, word by word.
use Rattle.std.proofs.Common.{◌≡◌, refl, sym, ap, ap₂, ◌∙◌, subst, Bool, true, false, cond, List, [], ◌∷◌, ◌++◌, map, ℕ, zero, suc, ◌+◌, ◌-◌, ◌*◌, ◌/◌, ◌%◌, ◌^◌, ◌≤◌, ◌<◌, min, zero-le, zero-add, add_comm, one-add, zero-mul, add-one, add-mul, mul_assoc, mod-lt, mod-eq_of_lt, div-one, lt_of_lt_of_le, arith, lit<, length, take, drop, get_or, drop-cons, take-add, take_all, length-take, length-take-le, length-drop, pow-suc, pow-add, pow_mono, ltb, eqb, eqb-true, bit_or, set, replicate, length-set, get_or-set_same, get_or-set_other, ext_get_or, le-ltb, lt-ltb, ltb-true, ltb-false}
use Rattle.std.proofs.Math.Arith.{digits_lt}
use Rattle.std.proofs.Math.Nat.{zero-div}
use Rattle.std.proofs.Math.Path.{fun_ext}
use Rattle.std.proofs.Math.Seq.{drop-length}
use mir.Val.{bool_byte}
use Rattle.std.proofs.Math.Decide.{dec_le}
use Rattle.std.proofs.lemmas.Bool.{eqb-false}
use Rattle.std.proofs.lemmas.List.{get_or-replicate}
use Rattle.std.proofs.lemmas.Nat.{or_shifted, mod-pow-add}
use Rattle.cache.specs.Sets.{Set}
use Rattle.cache.specs.declared.sets.CacheSet.{CacheSet}
use Rattle.cache.specs.Words.{bits_of, number_of, words_of}
use Rattle.cache.proofs.WordLaws.{WordsInRange, rest-bits, words-number}
use Rattle.cache.specs.Counts.{Counts, nothing, capped}
use Rattle.cache.specs.declared.useful.Useful.{Useful}
use Rattle.cache.specs.Levels.{above, number_below, set_of, leveled}
use Rattle.cache.specs.UsefulField.{push, read_counts, counts_of, bits_above}

abbrev one : Bool → ℕ
one b = cond b 1 0

-- whether a digit is above l, as a digit of base 2
abbrev pub bit : ℕ → ℕ → ℕ
bit l b = one (ltb l (b - 48))

one-lt : (b : Bool) → one b < 2
one-lt true = lit< tt
one-lt false = lit< tt

-- ---- one digit more is bit 0, and the others move up by one

bits-push : (n : ℕ) (b : Bool) → (bits_of (n * 2 + one b) 0 ≡ b) × ((s : ℕ) → bits_of (n * 2 + one b) (suc s) ≡ bits_of n s)
bits-push n b = (
  ap (λ (x : ℕ). eqb x 1) (ap (λ (x : ℕ). x % 2) (div-one (n * 2 + one b)) ∙ low b) ∙ back b,
  λ s. rest-bits (n * 2 + one b) s ∙ ap (λ (x : ℕ). bits_of x s) (high b),
)
  where
    low : (b : Bool) → (n * 2 + one b) % 2 ≡ one b
    low true = omega arith
    low false = omega arith

    high : (b : Bool) → (n * 2 + one b) / 2 ≡ n
    high true = omega arith
    high false = omega arith

    back : (b : Bool) → eqb (one b) 1 ≡ b
    back true = refl
    back false = refl

above-push : (l x d : ℕ) (U : Counts) → bits_of x ≡ above l U → bits_of (x * 2 + one (ltb l d)) ≡ above l (push d U)
unfolding above push
above-push l x d U e = fun_ext at
  where
    at : (s : ℕ) → bits_of (x * 2 + one (ltb l d)) s ≡ ltb l (push d U s)
    at zero = (bits-push x (ltb l d)).0
    at (suc s) = (bits-push x (ltb l d)).1 s ∙ ap (λ (A : Set). A s) e

above-nothing : (l : ℕ) → bits_of 0 ≡ above l nothing
unfolding above nothing
above-nothing l = fun_ext (λ s. ap (λ (x : ℕ). eqb (x % 2) 1) (zero-div (2 ^ s)) ∙ sym (le-ltb l 0 zero-le))

read_above : (l x : ℕ) (U : Counts) (f : List ℕ) → bits_of x ≡ above l U → bits_of (bits_above l x f) ≡ above l (read_counts U f)
unfolding bits_above read_counts
read_above l x U [] e = e
read_above l x U (b ∷ f) e = read_above l (x * 2 + bit l b) (push (b - 48) U) f (above-push l x (b - 48) U e)

-- ---- digits one after the other

cut : (l x : ℕ) (f g : List ℕ) → bits_above l x (f ++ g) ≡ bits_above l (bits_above l x f) g
unfolding bits_above
cut l x [] g = refl
cut l x (b ∷ f) g = cut l (x * 2 + bit l b) f g

-- the number before them moves up by one bit for each
weight : (l x : ℕ) (g : List ℕ) → bits_above l x g ≡ x * 2 ^ length g + bits_above l 0 g
unfolding bits_above
weight l x [] = omega arith
weight l x (b ∷ g) =
    let p : 2 ^ suc (length g) ≡ 2 * 2 ^ length g = rw pow-suc (omega arith) in
    weight l (x * 2 + bit l b) g
    ∙ ap (λ (y : ℕ). y + bits_above l 0 g) (add-mul (x * 2) (bit l b) (2 ^ length g))
    ∙ ap (λ (y : ℕ). y + bit l b * 2 ^ length g + bits_above l 0 g) (mul_assoc x 2 (2 ^ length g) ∙ ap (λ (y : ℕ). x * y) (sym p))
    ∙ omega (arith, weight l (0 * 2 + bit l b) g)

bits-lt : (l x i : ℕ) (f : List ℕ) → x < 2 ^ i → bits_above l x f < 2 ^ (i + length f)
unfolding bits_above
bits-lt l x i [] h = subst (λ (k : ℕ). x < 2 ^ k) (omega arith) h
bits-lt l x i (b ∷ f) h =
    subst (λ (k : ℕ). bits_above l (x * 2 + bit l b) f < 2 ^ k) (omega arith)
    (bits-lt l (x * 2 + bit l b) (i + 1) f (rw (pow-add 2 i 1) (digits_lt h (one-lt (ltb l (b - 48))))))

-- ---- one word: with i bytes of f read, x is their number, and reading on from it gives what all of f gives

pub record Reading (l : ℕ) (f : List ℕ) (x i : ℕ) : Type 0 where
  pub within : i ≤ length f
  pub same : bits_above l x (drop i f) ≡ bits_above l 0 f
  pub small : x < 2 ^ i

pub begin : (l : ℕ) (f : List ℕ) → Reading l f 0 0
begin l f = record { within = zero-le; same = refl; small = lit< tt }

pub above-digit : (l b : ℕ) → ltb (l + 48) b ≡ ltb l (b - 48)
above-digit l b = at (ltb l (b - 48)) refl
  where
    at : (t : Bool) → ltb l (b - 48) ≡ t → ltb (l + 48) b ≡ ltb l (b - 48)
    at true e = lt-ltb (l + 48) b (omega (arith, ltb-true l (b - 48) e)) ∙ sym e
    at false e = le-ltb (l + 48) b (omega (arith, ltb-false l (b - 48) e)) ∙ sym e

module _ {l : ℕ} {f : List ℕ} {x i : ℕ} (r : Reading l f x i) where
  pub ended : length f ≤ i → x ≡ bits_above l 0 f
  unfolding bits_above
  ended h =
      let e : i ≡ length f = omega (arith, r.within) in
      sym (ap (bits_above l x) (drop-length f)) ∙ ap (λ (k : ℕ). bits_above l x (drop k f)) (sym e) ∙ r.same

  module _ (more : i < length f) where
    pub room : length f ≤ 64 → x < 2 ^ 63
    room h = lt_of_lt_of_le r.small (pow_mono {j = 63} (omega arith))

    -- y is the number with the bit of the byte at i
    pub one_more : {y : ℕ} → y ≡ x * 2 + bit l (get_or f i 0) → Reading l f y (i + 1)
    unfolding bits_above
    one_more {y} q = record {
      within = omega arith;
      same = ap (λ (z : ℕ). bits_above l z (drop (i + 1) f)) q ∙ sym (rw (add-one, drop-cons f i 0)) ∙ r.same;
      small = rw (q, pow-add 2 i 1) (digits_lt r.small (one-lt (ltb l (get_or f i 0 - 48))));
    }

-- a digit of base 2 shifted into a word
bit_in : (w d : ℕ) → w < 2 ^ 63 → d < 2 → bit_or (w * 2 % 2 ^ 64) d ≡ w * 2 + d
bit_in w d h k =
    let e : w * 2 % 2 ^ 64 ≡ w * 2 = omega arith in
    ap (λ (x : ℕ). bit_or x d) e ∙ or_shifted w 1 d k

-- a test as the code has it in a number
bit-byte : (t : Bool) → bool_byte t ≡ one t
bit-byte true = refl
bit-byte false = refl

-- the bit of one byte shifted into a word
pub byte_in : (w l b : ℕ) → w < 2 ^ 63 → bit_or (w * 2 % 2 ^ 64) (bool_byte (ltb (l + 48) b)) ≡ w * 2 + bit l b
byte_in w l b h =
    let e : bool_byte (ltb (l + 48) b) ≡ bit l b = bit-byte (ltb (l + 48) b) ∙ ap one (above-digit l b) in
    rw e (bit_in w (bit l b) h (one-lt (ltb l (b - 48))))

-- ---- word by word: n is the number of the first i digits

pub record Front (l : ℕ) (f : List ℕ) (n i : ℕ) : Type 0 where
  pub within : i ≤ length f
  pub is : n ≡ bits_above l 0 (take i f)

pub front : (l : ℕ) (f : List ℕ) → Front l f 0 0
unfolding bits_above
front l f = record { within = zero-le; is = refl }

module _ {l : ℕ} {f : List ℕ} {n i j : ℕ} (r : Front l f n i) (from : i ≡ j - 64) (to : j ≤ length f) where
  long : length (take (j - i) (drop i f)) ≡ j - i
  long = length-take-le (j - i) (drop i f) (simp length-drop (omega arith))

  parts : take j f ≡ take i f ++ take (j - i) (drop i f)
  parts = let e : i + (j - i) ≡ j = omega arith in ap (λ (k : ℕ). take k f) (sym e) ∙ take-add i (j - i) f

  -- a word has 64 digits, or none stand before it
  moved : n * 2 ^ (j - i) ≡ n * 2 ^ 64
  unfolding bits_above
  moved = elim (dec_le 64 j) [
    | yes h ↦ (let e : j - i ≡ 64 = omega arith in ap (λ (k : ℕ). n * 2 ^ k) e)
    | no h ↦ first (omega arith)
  ]
    where
      first : i ≡ 0 → n * 2 ^ (j - i) ≡ n * 2 ^ 64
      first e =
          let z : n ≡ 0 = r.is ∙ ap (λ (k : ℕ). bits_above l 0 (take k f)) e in
          rw z (zero-mul (2 ^ (j - i)) ∙ sym (zero-mul (2 ^ 64)))

  pub word_more : (w : ℕ) → w ≡ bits_above l 0 (take (j - i) (drop i f)) → Front l f (n * 2 ^ 64 + w) j
  word_more w e = record {
    within = to;
    is = sym (
        ap (bits_above l 0) parts ∙ cut l 0 (take i f) (take (j - i) (drop i f))
        ∙ weight l (bits_above l 0 (take i f)) (take (j - i) (drop i f))
        ∙ ap₂ (λ (x y : ℕ). x + y) (ap₂ (λ (x k : ℕ). x * 2 ^ k) (sym r.is) long ∙ moved) (sym e)
        );
  }

-- the first word has no number before it
pub first_word : (l : ℕ) (f : List ℕ) (w j : ℕ) → 0 ≡ j - 64 → j ≤ length f → w ≡ bits_above l 0 (take (j - 0) (drop 0 f)) → Front l f w j
first_word l f w j from to e = subst (λ (n : ℕ). Front l f n j) (omega arith) (word_more (front l f) from to w e)

pub short-part : (f : List ℕ) (i j : ℕ) → i ≡ j - 64 → length (take (j - i) (drop i f)) ≤ 64
short-part f i j from = simp length-take (omega arith)

-- ---- a set of cache sets from its members

number-bits : (k n : ℕ) → number_below k (bits_of n) ≡ n % 2 ^ k
unfolding number_below
number-bits zero n = omega arith
number-bits (suc k) n =
    ap₂ (λ (x y : ℕ). x + y) (number-bits k n) (digit (n / 2 ^ k % 2) (mod-lt (n / 2 ^ k) (lit< tt)))
    ∙ add_comm (n % 2 ^ k) (n / 2 ^ k % 2 * 2 ^ k)
    ∙ sym (ap (λ (e : ℕ). n % 2 ^ e) (sym (one-add k)) ∙ mod-pow-add n 1 k)
  where
    digit : (x : ℕ) → x < 2 → cond (eqb x 1) (2 ^ k) 0 ≡ x * 2 ^ k
    digit zero h = sym (zero-mul (2 ^ k))
    digit (suc zero) h = omega arith
    digit (suc (suc x)) h = absurd (omega arith)

pub set-of-bits : (c : CacheSet) (n : ℕ) → WordsInRange c → number_of c ≡ n → n < 2 ^ 256 → set_of (bits_of n) ≡ c
set-of-bits c n p e h = ap words_of (number-bits 256 n ∙ mod-eq_of_lt h ∙ sym e) ∙ words-number c p

-- a whole field
module _ {l : ℕ} {f : List ℕ} {n j : ℕ} (r : Front l f n j) (all : length f ≤ j) where
  whole : n ≡ bits_above l 0 f
  whole = r.is ∙ ap (bits_above l 0) (take_all j f all)

  pub level-of : (c : CacheSet) → WordsInRange c → number_of c ≡ n → length f ≤ 256 → c ≡ set_of (above l (counts_of f))
  level-of c p e h =
      let small : n < 2 ^ 256 = rw whole (lt_of_lt_of_le (rw (zero-add (length f)) at (bits-lt l 0 0 f (lit< tt))) (pow_mono {j = 256} (omega arith))) in
      sym (set-of-bits c n p e small)
      ∙ ap set_of (ap bits_of whole ∙ read_above l 0 nothing f (above-nothing l))

-- ---- the levels of counts that are capped, one after the other

abbrev blank : CacheSet
blank = record { w0 = 0; w1 = 0; w2 = 0; w3 = 0 }

blank-in-range : WordsInRange blank
blank-in-range = record { in0 = lit< tt; in1 = lit< tt; in2 = lit< tt; in3 = lit< tt }

set-of-none : (k : ℕ) (U : Counts) → set_of (above k (capped 0 U)) ≡ blank
unfolding above capped number_of
set-of-none k U =
    ap set_of (fun_ext (λ s. le-ltb k (min 0 (U s)) (omega arith) ∙ sym (ap (λ (x : ℕ). eqb (x % 2) 1) (zero-div (2 ^ s)))))
    ∙ set-of-bits blank 0 blank-in-range refl (lit< tt)

-- the same test of two numbers
alike : (a x y : ℕ) → (a < x → a < y) → (x ≤ a → y ≤ a) → ltb a x ≡ ltb a y
alike a x y p q = at (ltb a x) refl
  where
    at : (t : Bool) → ltb a x ≡ t → ltb a x ≡ ltb a y
    at true e = e ∙ sym (lt-ltb a y (p (ltb-true a x e)))
    at false e = e ∙ sym (le-ltb a y (q (ltb-false a x e)))

other-level : (k n : ℕ) (U : Counts) → (k ≡ n → ⊥) → above k (capped n U) ≡ above k (capped (n + 1) U)
unfolding above capped
other-level k n U h = fun_ext (λ s. alike k (min n (U s)) (min (n + 1) (U s)) (λ l. omega arith) (λ l. omega arith))

next_level : (n : ℕ) (U : Counts) → above n U ≡ above n (capped (n + 1) U)
unfolding above capped
next_level n U = fun_ext (λ s. alike n (U s) (min (n + 1) (U s)) (λ l. omega arith) (λ l. omega arith))

-- the levels below n are made, and the others are empty yet
pub record Leveling (U : Counts) (n : ℕ) (levels : List CacheSet) : Type 0 where
  pub long : length levels ≡ 8
  pub each : (k : ℕ) → k < 8 → get_or levels k blank ≡ set_of (above k (capped n U))

pub level-none : (U : Counts) → Leveling U 0 (replicate 8 blank)
level-none U = record { long = refl; each = λ k h. get_or-replicate 8 k blank blank h ∙ sym (set-of-none k U) }

pub level-next : (U : Counts) (n : ℕ) (levels : List CacheSet) (c : CacheSet) → n < 8 → c ≡ set_of (above n U) → Leveling U n levels → Leveling U (n + 1) (set levels n c)
level-next U n levels c h e r = record {
  long = simp length-set r.long;
  each = λ k l. at k (eqb k n) refl l;
}
  where
    at : (k : ℕ) (t : Bool) → eqb k n ≡ t → k < 8 → get_or (set levels n c) k blank ≡ set_of (above k (capped (n + 1) U))
    at k true t l =
        rw (eqb-true k n t) (get_or-set_same levels n c blank (omega (arith, r.long)) ∙ e ∙ ap set_of (next_level n U))
    at k false t l =
        get_or-set_other levels n k c blank (λ z. eqb-false k n t z) ∙ r.each k l ∙ ap set_of (other-level k n U (eqb-false k n t))

-- more ways than levels make no difference
past-levels : (k n ways : ℕ) (U : Counts) → k < 8 → n ≡ min ways 8 → above k (capped n U) ≡ above k (capped ways U)
unfolding above capped
past-levels k n ways U h e = fun_ext (λ s. alike k (min n (U s)) (min ways (U s)) (λ l. omega arith) (λ l. omega arith))

pub leveled-is : (U : Counts) (ways n : ℕ) (levels : List CacheSet) → n ≡ min ways 8 → Leveling U n levels
    → ◌≡◌ {A = Useful} (record { levels = levels }) (leveled (capped ways U))
leveled-is U ways n levels e r =
    ap (λ (l : List CacheSet). record { levels = l })
    (ext_get_or blank levels _ r.long (λ k h. let few : k < 8 = omega (arith, r.long) in r.each k few ∙ ap set_of (past-levels k n ways U few e) ∙ at k few))
  where
    F : ℕ → CacheSet
    F l = set_of (above l (capped ways U))

    at : (k : ℕ) → k < 8 → F k ≡ get_or (map F (0 ∷ 1 ∷ 2 ∷ 3 ∷ 4 ∷ 5 ∷ 6 ∷ 7 ∷ [])) k blank
    at zero h = refl
    at (suc zero) h = refl
    at (suc (suc zero)) h = refl
    at (suc (suc (suc zero))) h = refl
    at (suc (suc (suc (suc zero)))) h = refl
    at (suc (suc (suc (suc (suc zero))))) h = refl
    at (suc (suc (suc (suc (suc (suc zero)))))) h = refl
    at (suc (suc (suc (suc (suc (suc (suc zero))))))) h = refl
    at (suc (suc (suc (suc (suc (suc (suc (suc k)))))))) h = absurd (omega arith)
