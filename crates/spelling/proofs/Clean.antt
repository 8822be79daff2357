-- What is cleaned is clean, and what is clean already stays as it is.
use Rattle.std.proofs.Common.{◌≡◌, ℕ, zero, suc, ◌+◌, ◌/◌, ◌%◌, ◌<◌, ◌≤◌, Bool, true, false, true≢false, cond, not, ◌&&◌, ◌||◌, eqb, nat_lt, nat_le, List, [], ◌∷◌, ◌++◌, get_or, length, refl, sym, ap, ap₂, ◌∙◌, arith, lt-ltb, le-leb}
use Rattle.std.proofs.lemmas.Bool.{lt-leb}
use Rattle.writing.specs.Text.{hex_byte}
use Rattle.spelling.specs.declared.Character.{Character}
use Rattle.spelling.specs.declared.Kind.TheVariants.{Text}
use Rattle.spelling.specs.Spelling.{byte_in, no_character, character_of, is_later, of_three, of_four, code_of_two, code_of_three, code_of_four, character_from, first_character, is_seen, is_kept, kept_bytes, escaped, spelled_from, cleaned, is_clean_from, is_clean}
use Rattle.spelling.proofs.Steps.{spelled-byte, byte-kept, spelled-on, spelled-at, clean-on, clean-at, not-clean-at}

-- ---- a character is told by its own bytes alone

-- as it is chosen by what holds of its bytes
abbrev chosen : Bool → Bool → Bool → Bool → Bool → Bool → Bool → Character → Character → Character → Character → Character
chosen a l x m y n z c1 c2 c3 c4 = cond a c1 (cond (not l) no_character (cond x c2 (cond (not m) no_character (cond y c3 (cond (not n || z) no_character c4)))))

steady : (a l x m y n z l' m' n' : Bool) (c1 c2 c3 c4 d2 d3 d4 : Character) → c2.bytes ≡ 2 → (0 < c3.bytes → c3.bytes ≡ 3) → (0 < c4.bytes → c4.bytes ≡ 4)
    → 0 < (chosen a l x m y n z c1 c2 c3 c4).bytes → (1 < (chosen a l x m y n z c1 c2 c3 c4).bytes → (l' ≡ l) × (d2 ≡ c2))
    → (2 < (chosen a l x m y n z c1 c2 c3 c4).bytes → (m' ≡ m) × (d3 ≡ c3)) → (3 < (chosen a l x m y n z c1 c2 c3 c4).bytes → (n' ≡ n) × (d4 ≡ c4))
    → chosen a l' x m' y n' z c1 d2 d3 d4 ≡ chosen a l x m y n z c1 c2 c3 c4
steady true l x m y n z l' m' n' c1 c2 c3 c4 d2 d3 d4 two three four some s t r = refl
steady false false x m y n z l' m' n' c1 c2 c3 c4 d2 d3 d4 two three four some s t r = absurd (omega (arith, some))
steady false true true m y n z l' m' n' c1 c2 c3 c4 d2 d3 d4 two three four some s t r =
    let p = s (omega (arith, two)) in
    rw (p.0, p.1) refl
steady false true false false y n z l' m' n' c1 c2 c3 c4 d2 d3 d4 two three four some s t r = absurd (omega (arith, some))
steady false true false true true n z l' m' n' c1 c2 c3 c4 d2 d3 d4 two three four some s t r =
    let k = three some in
    let p = s (omega (arith, k)) in
    let q = t (omega (arith, k)) in
    rw (p.0, q.0, q.1) refl
steady false true false true false false z l' m' n' c1 c2 c3 c4 d2 d3 d4 two three four some s t r = absurd (omega (arith, some))
steady false true false true false true true l' m' n' c1 c2 c3 c4 d2 d3 d4 two three four some s t r = absurd (omega (arith, some))
steady false true false true false true false l' m' n' c1 c2 c3 c4 d2 d3 d4 two three four some s t r =
    let k = four some in
    let p = s (omega (arith, k)) in
    let q = t (omega (arith, k)) in
    let u = r (omega (arith, k)) in
    rw (p.0, q.0, u.0, u.1) refl

three-bytes : (code : ℕ) → 0 < (of_three code).bytes → (of_three code).bytes ≡ 3
three-bytes code = go (nat_lt code 2048 || (nat_le 55296 code && nat_lt code 57344))
  where
    go : (t : Bool) → 0 < (cond t no_character (character_of 3 code)).bytes → (cond t no_character (character_of 3 code)).bytes ≡ 3
    go true some = absurd (omega (arith, some))
    go false some = refl

four-bytes : (code : ℕ) → 0 < (of_four code).bytes → (of_four code).bytes ≡ 4
four-bytes code = go (nat_lt code 65536 || nat_le 1114112 code)
  where
    go : (t : Bool) → 0 < (cond t no_character (character_of 4 code)).bytes → (cond t no_character (character_of 4 code)).bytes ≡ 4
    go true some = absurd (omega (arith, some))
    go false some = refl

same-character : (f s t r s' t' r' : ℕ) → 0 < (character_from f s t r).bytes → (1 < (character_from f s t r).bytes → s' ≡ s) → (2 < (character_from f s t r).bytes → t' ≡ t)
    → (3 < (character_from f s t r).bytes → r' ≡ r) → character_from f s' t' r' ≡ character_from f s t r
same-character f s t r s' t' r' some p q u =
    steady (nat_lt f 128) (is_later s) (nat_le 194 f && nat_lt f 224) (is_later t) (nat_le 224 f && nat_lt f 240) (is_later r) (nat_lt f 240 || nat_le 248 f) (is_later s') (is_later t') (is_later r')
    (character_of 1 f) (character_of 2 (code_of_two f s)) (of_three (code_of_three f s t)) (of_four (code_of_four f s t r))
    (character_of 2 (code_of_two f s')) (of_three (code_of_three f s' t')) (of_four (code_of_four f s' t' r'))
    refl (three-bytes (code_of_three f s t)) (four-bytes (code_of_four f s t r)) some
    (λ h. (ap is_later (p h), ap (λ (n : ℕ). character_of 2 (code_of_two f n)) (p h)))
    (λ h. (ap is_later (q h), ap₂ (λ (n m : ℕ). of_three (code_of_three f n m)) (p (omega (arith, h))) (q h)))
    (λ h. (ap is_later (u h), ap₂ (λ (n m : ℕ). of_four (code_of_four f n m r')) (p (omega (arith, h))) (q (omega (arith, h))) ∙ ap (λ (n : ℕ). of_four (code_of_four f s t n)) (u h)))

first-same : (s t : List ℕ) → 0 < (first_character s).bytes → ((j : ℕ) → j < (first_character s).bytes → byte_in t j ≡ byte_in s j) → first_character t ≡ first_character s
unfolding first_character
first-same s t some same =
    ap (λ (f : ℕ). character_from f (byte_in t 1) (byte_in t 2) (byte_in t 3)) (same 0 some)
    ∙ same-character (byte_in s 0) (byte_in s 1) (byte_in s 2) (byte_in s 3) (byte_in t 1) (byte_in t 2) (byte_in t 3) some (same 1) (same 2) (same 3)

has-bytes : (s : List ℕ) (n : ℕ) → kept_bytes Text s ≡ suc n → (first_character s).bytes ≡ suc n
unfolding kept_bytes
has-bytes s n = go (is_kept Text (first_character s).code)
  where
    go : (t : Bool) → cond t (first_character s).bytes 0 ≡ suc n → (first_character s).bytes ≡ suc n
    go true e = e
    go false e = absurd (omega (arith, e))

kept-same : (s t : List ℕ) (n : ℕ) → kept_bytes Text s ≡ suc n → ((j : ℕ) → j < suc n → byte_in t j ≡ byte_in s j) → kept_bytes Text t ≡ suc n
unfolding kept_bytes
kept-same s t n e same =
    let b : (first_character s).bytes ≡ suc n = has-bytes s n e in
    let c : first_character t ≡ first_character s = first-same s t (omega (arith, b)) (λ j h. same j (omega (arith, h, b))) in
    ap (λ (d : Character). cond (is_kept Text d.code) d.bytes 0) c ∙ e

-- ---- what is spelled out has plain letters alone

plain-seen : (c : ℕ) → 32 ≤ c → c ≤ 126 → is_seen c ≡ true
unfolding is_seen
plain-seen c low high =
    let none : (n : ℕ) → 126 < n → nat_le n c ≡ false = λ n h. lt-leb n c (omega (arith, high, h)) in
    rw (
      le-leb 0 c (omega arith),
      lt-leb c 31 (omega (arith, low)),
      none 127 (omega arith),
      none 173 (omega arith),
      none 1564 (omega arith),
      none 6158 (omega arith),
      none 8203 (omega arith),
      none 8232 (omega arith),
      none 8288 (omega arith),
      none 65279 (omega arith),
      none 65529 (omega arith),
    ) refl

plain-kept : (c : ℕ) (s : List ℕ) → 32 ≤ c → c ≤ 126 → kept_bytes Text (c ∷ s) ≡ 1
unfolding kept_bytes first_character
plain-kept c s low high =
    let one : nat_lt c 128 ≡ true = lt-ltb c 128 (omega arith) in
    rw (one, plain-seen c low high) refl

plain-clean : (c : ℕ) (s : List ℕ) → 32 ≤ c → c ≤ 126 → is_clean_from 0 (c ∷ s) ≡ is_clean_from 0 s
plain-clean c s low high = clean-at 0 c s (plain-kept c s low high)

hex-low : (d : ℕ) → 32 ≤ hex_byte d
unfolding hex_byte
hex-low d = go (nat_lt d 10)
  where
    go : (t : Bool) → 32 ≤ cond t (48 + d) (87 + d)
    go true = omega arith
    go false = omega arith

hex-high : (d : ℕ) → d < 16 → hex_byte d ≤ 126
unfolding hex_byte
hex-high d h = go (nat_lt d 10)
  where
    go : (t : Bool) → cond t (48 + d) (87 + d) ≤ 126
    go true = omega (arith, h)
    go false = omega (arith, h)

escape-clean : (b : ℕ) (r : List ℕ) → b < 256 → is_clean_from 0 (escaped b ++ r) ≡ is_clean_from 0 r
unfolding escaped
escape-clean b r h = go (eqb b 10) (eqb b 9) (eqb b 92)
  where
    go : (x y z : Bool) → is_clean_from 0 (cond x (92 ∷ 110 ∷ []) (cond y (92 ∷ 116 ∷ []) (cond z (92 ∷ 92 ∷ []) (92 ∷ 120 ∷ hex_byte (b / 16) ∷ hex_byte (b % 16) ∷ []))) ++ r) ≡ is_clean_from 0 r
    go true y z = plain-clean 92 (110 ∷ r) (omega arith) (omega arith) ∙ plain-clean 110 r (omega arith) (omega arith)
    go false true z = plain-clean 92 (116 ∷ r) (omega arith) (omega arith) ∙ plain-clean 116 r (omega arith) (omega arith)
    go false false true = plain-clean 92 (92 ∷ r) (omega arith) (omega arith) ∙ plain-clean 92 r (omega arith) (omega arith)
    go false false false =
        plain-clean 92 (120 ∷ hex_byte (b / 16) ∷ hex_byte (b % 16) ∷ r) (omega arith) (omega arith)
        ∙ plain-clean 120 (hex_byte (b / 16) ∷ hex_byte (b % 16) ∷ r) (omega arith) (omega arith)
        ∙ plain-clean (hex_byte (b / 16)) (hex_byte (b % 16) ∷ r) (hex-low (b / 16)) (hex-high (b / 16) (omega (arith, h)))
        ∙ plain-clean (hex_byte (b % 16)) r (hex-low (b % 16)) (hex-high (b % 16) (omega arith))

-- ---- what is cleaned is clean

-- what is kept stands there as it was
kept-bytes-stay : (k : ℕ) (s : List ℕ) (j : ℕ) → j < k → byte_in (spelled_from Text k s) j ≡ byte_in s j
unfolding spelled_from
kept-bytes-stay zero s j h = absurd (omega (arith, h))
kept-bytes-stay (suc k) [] j h = refl
kept-bytes-stay (suc k) (b ∷ s) zero h = ap (λ (t : List ℕ). byte_in t 0) (spelled-on Text k b s)
kept-bytes-stay (suc k) (b ∷ s) (suc j) h = ap (λ (t : List ℕ). byte_in t (suc j)) (spelled-on Text k b s) ∙ kept-bytes-stay k s j (omega (arith, h))

byte-cleaned : (b : ℕ) (s : List ℕ) → b < 256 → ((k : ℕ) → is_clean_from k (spelled_from Text k s) ≡ true) → (m : ℕ) → kept_bytes Text (b ∷ s) ≡ m
    → is_clean_from 0 (spelled_from Text 0 (b ∷ s)) ≡ true
byte-cleaned b s h rest zero e = ap (is_clean_from 0) (spelled-at Text 0 b s e) ∙ escape-clean b (spelled_from Text 0 s) h ∙ rest 0
byte-cleaned b s h rest (suc n) e =
    ap (is_clean_from 0) (spelled-at Text (suc n) b s e ∙ byte-kept Text n b s)
    ∙ clean-at n b (spelled_from Text n s) (kept-same (b ∷ s) (b ∷ spelled_from Text n s) n e same) ∙ rest n
  where
    same : (j : ℕ) → j < suc n → byte_in (b ∷ spelled_from Text n s) j ≡ byte_in (b ∷ s) j
    same zero l = refl
    same (suc j) l = kept-bytes-stay n s j (omega (arith, l))

cleaned-from : (s : List ℕ) → ((i : ℕ) → get_or s i 0 < 256) → (k : ℕ) → is_clean_from k (spelled_from Text k s) ≡ true
unfolding spelled_from is_clean_from
cleaned-from [] h k = refl
cleaned-from (b ∷ s) h zero = byte-cleaned b s (h 0) (cleaned-from s (λ i. h (suc i))) (kept_bytes Text (b ∷ s)) refl
cleaned-from (b ∷ s) h (suc k) = ap (is_clean_from (suc k)) (spelled-on Text k b s) ∙ clean-on k b (spelled_from Text k s) ∙ cleaned-from s (λ i. h (suc i)) k

pub cleaned_clean : (s : List ℕ) → ((i : ℕ) → get_or s i 0 < 256) → is_clean (cleaned s) ≡ true
cleaned_clean s h = cleaned-from s h 0

-- ---- what is clean stays as it is

byte-stays : (b : ℕ) (s : List ℕ) → ((k : ℕ) → is_clean_from k s ≡ true → spelled_from Text k s ≡ s) → is_clean_from 0 (b ∷ s) ≡ true → (m : ℕ) → kept_bytes Text (b ∷ s) ≡ m
    → spelled_from Text 0 (b ∷ s) ≡ b ∷ s
byte-stays b s rest c zero e = absurd (true≢false (sym c ∙ not-clean-at b s e))
byte-stays b s rest c (suc n) e = spelled-at Text (suc n) b s e ∙ byte-kept Text n b s ∙ ap (λ (t : List ℕ). b ∷ t) (rest n (sym (clean-at n b s e) ∙ c))

stays-from : (s : List ℕ) (k : ℕ) → is_clean_from k s ≡ true → spelled_from Text k s ≡ s
unfolding spelled_from
stays-from [] k c = refl
stays-from (b ∷ s) zero c = byte-stays b s (stays-from s) c (kept_bytes Text (b ∷ s)) refl
stays-from (b ∷ s) (suc k) c = spelled-on Text k b s ∙ ap (λ (t : List ℕ). b ∷ t) (stays-from s k (sym (clean-on k b s) ∙ c))

pub clean_stays : (s : List ℕ) → is_clean s ≡ true → cleaned s ≡ s
clean_stays s c = stays-from s 0 c

-- ---- of some bytes some are written

spelled-some : (m b : ℕ) (s : List ℕ) → 0 < length (spelled-byte Text m b s)
unfolding escaped
spelled-some (suc m) b s = rw (byte-kept Text m b s) (omega arith)
spelled-some zero b s = go (eqb b 10) (eqb b 9) (eqb b 92)
  where
    go : (x y z : Bool) → 0 < length (cond x (92 ∷ 110 ∷ []) (cond y (92 ∷ 116 ∷ []) (cond z (92 ∷ 92 ∷ []) (92 ∷ 120 ∷ hex_byte (b / 16) ∷ hex_byte (b % 16) ∷ []))) ++ spelled_from Text 0 s)
    go true y z = omega arith
    go false true z = omega arith
    go false false true = omega arith
    go false false false = omega arith

pub cleaned_some : (b : ℕ) (s : List ℕ) → 0 < length (cleaned (b ∷ s))
cleaned_some b s = rw (spelled-at Text (kept_bytes Text (b ∷ s)) b s refl) (spelled-some (kept_bytes Text (b ∷ s)) b s)
