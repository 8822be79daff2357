-- Different texts are spelled differently.
use Rattle.std.proofs.Common.{◌≡◌, ℕ, zero, suc, ◌+◌, ◌-◌, ◌*◌, ◌/◌, ◌%◌, ◌<◌, ◌≤◌, Bool, true, false, true≢false, cond, not, ◌&&◌, eqb, eqb-true, nat_lt, List, [], ◌∷◌, ◌++◌, length, refl, sym, ap, ap₂, subst, ◌∙◌, arith, ltb-true, ltb-false, lt-ltb, le-ltb}
use Rattle.std.proofs.lemmas.Bool.{eqb-false}
use Rattle.writing.specs.Text.{hex_byte}
use Rattle.spelling.specs.declared.Kind.TheVariants.{Field}
use Rattle.spelling.specs.Spelling.{first_character, is_seen, kept_bytes, kept_now, escaped, spelled_from, spelled_out}
use Rattle.spelling.proofs.Bytes.{first-has, AllFirst, all-first}
use Rattle.spelling.proofs.Steps.{now-left, spelled-byte, byte-kept}

-- ---- what is kept as it is has no backslash

abbrev NoBackslash : ℕ → Type 0
NoBackslash b = ¬ (b ≡ 92)

abbrev Kept : ℕ → List ℕ → Type 0
Kept = AllFirst NoBackslash

shown-kept : (s : List ℕ) → Kept (kept_bytes Field s) s
unfolding kept_bytes
shown-kept s = go (is_seen (first_character s).code && not (eqb (first_character s).code 92)) refl
  where
    last : (a b : Bool) → (a && not b) ≡ true → b ≡ false
    last true false e = refl
    last true true e = absurd (true≢false (sym e))
    last false b e = absurd (true≢false (sym e))

    go : (t : Bool) → (is_seen (first_character s).code && not (eqb (first_character s).code 92)) ≡ t → Kept (cond t (first_character s).bytes 0) s
    go false e = tt
    go true e = all-first NoBackslash (first_character s).bytes s (first-has NoBackslash (λ b h e. omega (arith, h, e)) s (eqb-false (first_character s).code 92 (last (is_seen (first_character s).code) (eqb (first_character s).code 92) e)))

-- ---- what is spelled out

digit : ℕ → ℕ
digit h = cond (nat_lt h 97) (h - 48) (h - 87)

digit-read : (d : ℕ) → digit (hex_byte d) ≡ d
unfolding digit hex_byte
digit-read d = go (nat_lt d 10) refl
  where
    go : (t : Bool) → nat_lt d 10 ≡ t → cond (nat_lt (cond t (48 + d) (87 + d)) 97) (cond t (48 + d) (87 + d) - 48) (cond t (48 + d) (87 + d) - 87) ≡ d
    go true e = let small : d < 10 = ltb-true d 10 e in rw (lt-ltb (48 + d) 97 (omega arith)) (omega arith)
    go false e = let large : 10 ≤ d = ltb-false d 10 e in rw (le-ltb (87 + d) 97 (omega arith)) (omega arith)

two-digits : List ℕ → ℕ × List ℕ
two-digits [] = (0, [])
two-digits (h ∷ []) = (0, [])
two-digits (h ∷ l ∷ r) = (16 * digit h + digit l, r)

read-escape : List ℕ → ℕ × List ℕ
read-escape [] = (0, [])
read-escape (b ∷ []) = (0, [])
read-escape (b ∷ c ∷ r) = cond (eqb c 110) (10, r) (cond (eqb c 116) (9, r) (cond (eqb c 92) (92, r) (two-digits r)))

escape-read : (b : ℕ) (r : List ℕ) → read-escape (escaped b ++ r) ≡ (b, r)
unfolding escaped read-escape two-digits
escape-read b r = go (eqb b 10) (eqb b 9) (eqb b 92) refl refl refl
  where
    whole : 16 * (b / 16) + b % 16 ≡ b
    whole = omega arith

    go : (x y z : Bool) → eqb b 10 ≡ x → eqb b 9 ≡ y → eqb b 92 ≡ z
        → read-escape (cond x (92 ∷ 110 ∷ []) (cond y (92 ∷ 116 ∷ []) (cond z (92 ∷ 92 ∷ []) (92 ∷ 120 ∷ hex_byte (b / 16) ∷ hex_byte (b % 16) ∷ []))) ++ r) ≡ (b, r)
    go true y z p q s = ap (λ (n : ℕ). (n, r)) (sym (eqb-true b 10 p))
    go false true z p q s = ap (λ (n : ℕ). (n, r)) (sym (eqb-true b 9 q))
    go false false true p q s = ap (λ (n : ℕ). (n, r)) (sym (eqb-true b 92 s))
    go false false false p q s = ap (λ (n : ℕ). (n, r)) (ap₂ (λ (h l : ℕ). 16 * h + l) (digit-read (b / 16)) (digit-read (b % 16)) ∙ whole)

escape-apart : (a b : ℕ) (r s : List ℕ) → escaped a ++ r ≡ escaped b ++ s → (a ≡ b) × (r ≡ s)
escape-apart a b r s e =
    let both : (a, r) ≡ (b, s) = sym (escape-read a r) ∙ ap read-escape e ∙ escape-read b s in
    (ap (λ (p : ℕ × List ℕ). p.0) both, ap (λ (p : ℕ × List ℕ). p.1) both)

head : List ℕ → ℕ
head [] = 0
head (b ∷ s) = b

tail : List ℕ → List ℕ
tail [] = []
tail (b ∷ s) = s

escape-head : (b : ℕ) (r : List ℕ) → head (escaped b ++ r) ≡ 92
unfolding escaped head
escape-head b r = go (eqb b 10) (eqb b 9) (eqb b 92)
  where
    go : (x y z : Bool) → head (cond x (92 ∷ 110 ∷ []) (cond y (92 ∷ 116 ∷ []) (cond z (92 ∷ 92 ∷ []) (92 ∷ 120 ∷ hex_byte (b / 16) ∷ hex_byte (b % 16) ∷ []))) ++ r) ≡ 92
    go true y z = refl
    go false true z = refl
    go false false true = refl
    go false false false = refl

-- ---- byte by byte

byte-apart : (m n a b : ℕ) (s t : List ℕ) → Kept m (a ∷ s) → Kept n (b ∷ t) → ((i j : ℕ) → Kept i s → Kept j t → spelled_from Field i s ≡ spelled_from Field j t → s ≡ t)
    → spelled-byte Field m a s ≡ spelled-byte Field n b t → a ∷ s ≡ b ∷ t
unfolding head tail
byte-apart zero zero a b s t k l rec e = let both = escape-apart a b (spelled_from Field 0 s) (spelled_from Field 0 t) e in ap₂ ◌∷◌ both.0 (rec 0 0 tt tt both.1)
byte-apart zero (suc n) a b s t k l rec e = absurd (l.0 (sym (ap head (e ∙ byte-kept Field n b t)) ∙ escape-head a (spelled_from Field 0 s)))
byte-apart (suc m) zero a b s t k l rec e = absurd (k.0 (ap head (sym (byte-kept Field m a s) ∙ e) ∙ escape-head b (spelled_from Field 0 t)))
byte-apart (suc m) (suc n) a b s t k l rec e =
    let both : a ∷ spelled_from Field m s ≡ b ∷ spelled_from Field n t = sym (byte-kept Field m a s) ∙ e ∙ byte-kept Field n b t in
    ap₂ ◌∷◌ (ap head both) (rec m n k.1 l.1 (ap tail both))

some-bytes : (m b : ℕ) (s : List ℕ) → [] ≡ spelled-byte Field m b s → ⊥
unfolding head
some-bytes zero b s e = let z : ◌≡◌ {A = ℕ} 0 92 = ap head e ∙ escape-head b (spelled_from Field 0 s) in absurd (omega (arith, z))
some-bytes (suc m) b s e = let z : 0 ≡ suc (length (spelled_from Field m s)) = ap length (e ∙ byte-kept Field m b s) in absurd (omega (arith, z))

now-kept : (k b : ℕ) (s : List ℕ) → Kept k (b ∷ s) → Kept (kept_now Field k (b ∷ s)) (b ∷ s)
now-kept zero b s h = shown-kept (b ∷ s)
now-kept (suc k) b s h = subst (λ (i : ℕ). Kept i (b ∷ s)) (sym (now-left Field k (b ∷ s))) h

from-apart : (s t : List ℕ) (i j : ℕ) → Kept i s → Kept j t → spelled_from Field i s ≡ spelled_from Field j t → s ≡ t
unfolding spelled_from
from-apart [] [] i j k l e = refl
from-apart [] (b ∷ t) i j k l e = absurd (some-bytes (kept_now Field j (b ∷ t)) b t e)
from-apart (a ∷ s) [] i j k l e = absurd (some-bytes (kept_now Field i (a ∷ s)) a s (sym e))
from-apart (a ∷ s) (b ∷ t) i j k l e = byte-apart (kept_now Field i (a ∷ s)) (kept_now Field j (b ∷ t)) a b s t (now-kept i a s k) (now-kept j b t l) (from-apart s t) e

pub spelled-apart : (text other : List ℕ) → spelled_out other ≡ spelled_out text → other ≡ text
spelled-apart text other e = from-apart other text 0 0 tt tt e
