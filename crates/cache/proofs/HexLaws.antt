-- Laws of hex digits and the numbers that they say.
use Rattle.std.proofs.Common.{◌≡◌, refl, sym, ap, ap₂, ◌∙◌, subst, subst₂, ◌⊎◌, inl, inr, ⊎_elim, Bool, true, false, ◌&&◌, cond, List, [], ◌∷◌, ◌++◌, ℕ, suc, ◌+◌, ◌*◌, ◌-◌, ◌^◌, ◌≤◌, ◌<◌, zero-le, lt_of_lt_of_le, add-zero, zero-add, mul_assoc, zero-mul, add-one, arith, length, take, drop, get_or, length-drop, take-append-drop, pow-add, pow_mono, drop-cons, drop-drop, length-take-le, leb, lit<, leb-true}
use Rattle.std.proofs.Math.Arith.{digits_lt, lt-one}
use Rattle.std.proofs.Math.Bool.{and-eq-true_iff}
use Rattle.std.proofs.Math.Decide.{dec_le}
use Rattle.std.proofs.Math.Seq.{drop-length}
use Rattle.std.specs.Prelude.{Option, Some, None, option_and_then}
use Rattle.std.proofs.lemmas.Option.{option_and_then_some}
use Rattle.cache.specs.Hex.{hex_digit, read_hex}

-- ---- a digit and its byte

either : (p q : Bool) (x y d : ℕ) → cond p (Some x) (cond q (Some y) None) ≡ Some d → ((p ≡ true) × (x ≡ d)) ⊎ ((q ≡ true) × (y ≡ d))
either true q x y d e = inl (refl, cc)
either false true x y d e = inr (refl, cc)
either false false x y d e = let z : ◌≡◌ {A = ℕ} 0 1 = cc in absurd (omega arith)

in-run : (low high b : ℕ) → (leb low b && leb b high) ≡ true → (low ≤ b) × (b ≤ high)
in-run low high b e =
    let w = (and-eq-true_iff (leb low b) (leb b high)).0 e in
    (leb-true low b w.0, leb-true b high w.1)

-- the two runs of bytes that are digits
digit-byte : (b d : ℕ) → hex_digit b ≡ Some d → (((48 ≤ b) × (b ≤ 57)) × (b - 48 ≡ d)) ⊎ (((97 ≤ b) × (b ≤ 102)) × (b - 97 + 10 ≡ d))
unfolding hex_digit
digit-byte b d e =
    ⊎_elim
    (λ w. inl (in-run 48 57 b w.0, w.1))
    (λ w. inr (in-run 97 102 b w.0, w.1))
    (either (leb 48 b && leb b 57) (leb 97 b && leb b 102) (b - 48) (b - 97 + 10) d e)

pub digit_lt : (b d : ℕ) → hex_digit b ≡ Some d → d < 16
digit_lt b d e = ⊎_elim (λ w. omega arith) (λ w. omega arith) (digit-byte b d e)

digit-inj : (b b' d : ℕ) → hex_digit b ≡ Some d → hex_digit b' ≡ Some d → b ≡ b'
digit-inj b b' d p q =
    ⊎_elim
    (λ w. ⊎_elim (λ v. omega arith) (λ v. omega arith) (digit-byte b' d q))
    (λ w. ⊎_elim (λ v. omega arith) (λ v. omega arith) (digit-byte b' d q))
    (digit-byte b d p)

-- where a byte and what comes after it say a number, the byte is a digit
digit-first : (b : ℕ) (f : ℕ → Option ℕ) (n : ℕ) → option_and_then f (hex_digit b) ≡ Some n → (d : ℕ) × (hex_digit b ≡ Some d) × (f d ≡ Some n)
digit-first b f n e = option_and_then_some f (hex_digit b) n e (λ d is rest. (d, is, rest))

-- more digits take four bits more each
digits_more : {n v : ℕ} (i k : ℕ) → n < 2 ^ (4 * i) → v < 2 ^ (4 * k) → n * 2 ^ (4 * k) + v < 2 ^ (4 * (i + k))
digits_more {n} {v} i k h l =
    subst (λ (x : ℕ). n * 2 ^ (4 * k) + v < x) (sym (ap (λ (e : ℕ). 2 ^ e) times ∙ pow-add 2 (4 * i) (4 * k))) (digits_lt h l)
  where
    times : 4 * (i + k) ≡ 4 * i + 4 * k
    times = omega arith

pub read-lt : (f : List ℕ) (m n i : ℕ) → m < 2 ^ (4 * i) → read_hex m f ≡ Some n → n < 2 ^ (4 * (i + length f))
unfolding read_hex
read-lt [] m n i h e = let s : m ≡ n = cc in subst (λ (x : ℕ). x < 2 ^ (4 * (i + 0))) s (subst (λ (x : ℕ). m < 2 ^ (4 * x)) (omega arith) h)
read-lt (b ∷ f) m n i h e =
    let u = digit-first b (λ d. read_hex (m * 16 + d) f) n e in
    subst (λ (x : ℕ). n < 2 ^ (4 * x)) (omega arith) (read-lt f (m * 16 + u.0) n (i + 1) (digits_more i 1 h (digit_lt b u.0 u.1)) u.2)

in-turn : (o : Option ℕ) (k k' l : ℕ → Option ℕ) → ((d : ℕ) → k d ≡ option_and_then l (k' d)) → option_and_then k o ≡ option_and_then l (option_and_then k' o)
in-turn (Some d) k k' l e = e d
in-turn None k k' l e = refl

-- digits are read by themselves, from m: the number n before them moves four bits up for each
pub read-cut : (x y : List ℕ) (n m : ℕ) → read_hex (n + m) (x ++ y) ≡ option_and_then (λ v. read_hex (n * 2 ^ (4 * length x) + v) y) (read_hex m x)
unfolding read_hex
read-cut [] y n m = ap (λ (s : ℕ). read_hex s y) (omega arith)
read-cut (b ∷ x) y n m =
    in-turn (hex_digit b) _ (λ d. read_hex (m * 16 + d) x) _
    (λ d. ap (λ (s : ℕ). read_hex s (x ++ y)) (omega arith) ∙ read-cut x y (n * 16) (m * 16 + d)
    ∙ ap (λ (s : ℕ). option_and_then (λ v. read_hex (s + v) y) (read_hex (m * 16 + d) x)) weight)
  where
    weight : n * 16 * 2 ^ (4 * length x) ≡ n * 2 ^ (4 * suc (length x))
    weight = mul_assoc n 16 (2 ^ (4 * length x)) ∙ ap (λ (s : ℕ). n * s) (sym (pow-add 2 4 (4 * length x)) ∙ ap (λ (e : ℕ). 2 ^ e) (omega arith))

-- ---- reading from the front

-- with i bytes of f read, n is their number: reading on from it gives what all of f gives
pub record Reading (f : List ℕ) (n i : ℕ) : Type 0 where
  pub within : i ≤ length f
  pub same : read_hex n (drop i f) ≡ read_hex 0 f
  pub small : n < 2 ^ (4 * i)

pub begin : (f : List ℕ) → Reading f 0 0
begin f = record { within = zero-le; same = refl; small = lit< tt }

module _ {f : List ℕ} {n i : ℕ} (r : Reading f n i) where
  pub ended : length f ≤ i → read_hex 0 f ≡ Some n
  unfolding read_hex
  ended h =
      let e : i ≡ length f = omega (arith, r.within) in
      sym r.same ∙ ap (λ (k : ℕ). read_hex n (drop k f)) e ∙ ap (read_hex n) (drop-length f)

  module _ (more : i < length f) where
    next : read_hex n (drop i f) ≡ option_and_then (λ d. read_hex (n * 16 + d) (drop (i + 1) f)) (hex_digit (get_or f i 0))
    unfolding read_hex
    next = rw (add-one, drop-cons f i 0)

    pub no_digit : hex_digit (get_or f i 0) ≡ None → read_hex 0 f ≡ None
    no_digit e = sym r.same ∙ next ∙ ap (λ (o : Option ℕ). option_and_then (λ d. read_hex (n * 16 + d) (drop (i + 1) f)) o) e

    -- 15 digits at most are read before the last of a word
    pub room : length f ≤ 16 → n < 2 ^ 60
    room h = lt_of_lt_of_le r.small (pow_mono {j = 60} (omega arith))

    pub one_more : (d : ℕ) → hex_digit (get_or f i 0) ≡ Some d → Reading f (n * 16 + d) (i + 1)
    one_more d e = record {
      within = omega arith;
      same = sym (next ∙ ap (λ (o : Option ℕ). option_and_then (λ d. read_hex (n * 16 + d) (drop (i + 1) f)) o) e) ∙ r.same;
      small = digits_more i 1 r.small (digit_lt (get_or f i 0) d e);
    }

-- the digits from i to j make a word: they are sixteen, or the first ones and fewer
module _ {f : List ℕ} {n i j : ℕ} (r : Reading f n i) (from : i ≡ j - 16) (to : j ≤ length f) where
  long : length (take (j - i) (drop i f)) ≡ j - i
  long = length-take-le (j - i) (drop i f) (simp length-drop (omega arith))

  seam : i + (j - i) ≡ j
  seam = omega arith

  -- the first ones have no number before them
  weight : n * 2 ^ (4 * (j - i)) ≡ n * 2 ^ 64
  weight = elim (dec_le 16 j) [ yes h ↦ sixteen (omega arith) | no h ↦ first-ones (omega arith) ]
    where
      sixteen : j - i ≡ 16 → n * 2 ^ (4 * (j - i)) ≡ n * 2 ^ 64
      sixteen e = ap (λ (k : ℕ). n * 2 ^ (4 * k)) e

      first-ones : i ≡ 0 → n * 2 ^ (4 * (j - i)) ≡ n * 2 ^ 64
      first-ones e =
          let z : n ≡ 0 = lt-one (subst (λ (k : ℕ). n < 2 ^ (4 * k)) e r.small) in
          rw z (zero-mul (2 ^ (4 * (j - i))) ∙ sym (zero-mul (2 ^ 64)))

  cut : read_hex 0 f ≡ option_and_then (λ w. read_hex (n * 2 ^ 64 + w) (drop j f)) (read_hex 0 (take (j - i) (drop i f)))
  cut =
      sym r.same ∙ ap₂ read_hex (sym (add-zero n)) (sym (take-append-drop (j - i) (drop i f)))
      ∙ read-cut (take (j - i) (drop i f)) (drop (j - i) (drop i f)) n 0
      ∙ ap₂ (λ (s : ℕ) (y : List ℕ). option_and_then (λ w. read_hex (s + w) y) (read_hex 0 (take (j - i) (drop i f))))
      (ap (λ (k : ℕ). n * 2 ^ (4 * k)) long ∙ weight)
      (drop-drop (j - i) i f ∙ ap (λ (k : ℕ). drop k f) seam)

  pub no_word : read_hex 0 (take (j - i) (drop i f)) ≡ None → read_hex 0 f ≡ None
  no_word e = cut ∙ ap (λ (o : Option ℕ). option_and_then (λ w. read_hex (n * 2 ^ 64 + w) (drop j f)) o) e

  pub word_more : (w : ℕ) → read_hex 0 (take (j - i) (drop i f)) ≡ Some w → Reading f (n * 2 ^ 64 + w) j
  word_more w e = record {
    within = to;
    same = sym (cut ∙ ap (λ (o : Option ℕ). option_and_then (λ w. read_hex (n * 2 ^ 64 + w) (drop j f)) o) e);
    small = subst₂ (λ (s k : ℕ). s + w < 2 ^ (4 * k)) weight seam (digits_more i (j - i) r.small fits);
  }
    where
      fits : w < 2 ^ (4 * (j - i))
      fits = subst (λ (k : ℕ). w < 2 ^ (4 * k)) (zero-add _ ∙ long) (read-lt (take (j - i) (drop i f)) 0 w 0 (lit< tt) e)

-- ---- one spelling: as many digits that say the same number are the same bytes

pub read-inj : (f g : List ℕ) (a b n : ℕ) → length f ≡ length g → read_hex a f ≡ Some n → read_hex b g ≡ Some n → (a ≡ b) × (f ≡ g)
unfolding read_hex
read-inj [] [] a b n l p q = (cc, refl)
read-inj [] (y ∷ g) a b n l p q = absurd (omega arith)
read-inj (x ∷ f) [] a b n l p q = absurd (omega arith)
read-inj (x ∷ f) (y ∷ g) a b n l p q =
    let u = digit-first x (λ d. read_hex (a * 16 + d) f) n p in
    let v = digit-first y (λ d. read_hex (b * 16 + d) g) n q in
    let r = read-inj f g (a * 16 + u.0) (b * 16 + v.0) n (omega arith) u.2 v.2 in
    let s = same a b u.0 v.0 (digit_lt x u.0 u.1) (digit_lt y v.0 v.1) r.0 in
    (s.0, ap₂ (λ (z : ℕ) (zs : List ℕ). z ∷ zs) (digit-inj x y v.0 (u.1 ∙ ap Some s.1) v.1) r.1)
  where
    same : (a b d e : ℕ) → d < 16 → e < 16 → a * 16 + d ≡ b * 16 + e → (a ≡ b) × (d ≡ e)
    same a b d e p q h = (omega arith, omega arith)
