-- Byte by byte: a text that is spelled, and one that is looked at.
use Rattle.std.proofs.Common.{◌≡◌, ℕ, suc, ◌+◌, ◌-◌, ◌<◌, Bool, true, false, cond, eqb, eqb-true, List, ◌∷◌, ◌++◌, length, get_or, take, take_all, drop, drop-cons, length-drop, refl, sym, ap, ◌∙◌, arith, add-one}
use Rattle.spelling.specs.declared.Kind.{Kind}
use Rattle.spelling.specs.declared.Kind.TheVariants.{Text}
use Rattle.spelling.specs.Spelling.{kept_bytes, kept_now, escaped, spelled_from, is_clean_from}

not-none : (m : ℕ) → eqb (suc m) 0 ≡ false
not-none m = go (eqb (suc m) 0) refl
  where
    go : (t : Bool) → eqb (suc m) 0 ≡ t → eqb (suc m) 0 ≡ false
    go true e = let z : suc m ≡ 0 = eqb-true (suc m) 0 e in absurd (omega (arith, z))
    go false e = e

pub now-left : (kind : Kind) (k : ℕ) (s : List ℕ) → kept_now kind (suc k) s ≡ suc k
now-left kind k s = ap (λ (t : Bool). cond t (kept_bytes kind s) (suc k)) (not-none k)

-- a byte, of a character of which so many bytes are left to be kept, and what is spelled after it
abbrev pub spelled-byte : Kind → ℕ → ℕ → List ℕ → List ℕ
spelled-byte kind m b s = cond (eqb m 0) (escaped b ++ spelled_from kind 0 s) (b ∷ spelled_from kind (m - 1) s)

pub byte-kept : (kind : Kind) (m b : ℕ) (s : List ℕ) → spelled-byte kind (suc m) b s ≡ b ∷ spelled_from kind m s
byte-kept kind m b s =
    let less : suc m - 1 ≡ m = omega arith in
    ap (λ (t : Bool). cond t (escaped b ++ spelled_from kind 0 s) (b ∷ spelled_from kind (suc m - 1) s)) (not-none m) ∙ ap (λ (i : ℕ). b ∷ spelled_from kind i s) less

-- within a character that is kept
pub spelled-on : (kind : Kind) (k b : ℕ) (s : List ℕ) → spelled_from kind (suc k) (b ∷ s) ≡ b ∷ spelled_from kind k s
unfolding spelled_from
spelled-on kind k b s = ap (λ (m : ℕ). spelled-byte kind m b s) (now-left kind k (b ∷ s)) ∙ byte-kept kind k b s

-- at a character's start
pub spelled-at : (kind : Kind) (m b : ℕ) (s : List ℕ) → kept_bytes kind (b ∷ s) ≡ m → spelled_from kind 0 (b ∷ s) ≡ spelled-byte kind m b s
unfolding spelled_from
spelled-at kind m b s e = ap (λ (i : ℕ). spelled-byte kind i b s) e

-- a byte that is looked at, and what stands after it
abbrev clean-byte : ℕ → List ℕ → Bool
clean-byte m s = cond (eqb m 0) false (is_clean_from (m - 1) s)

byte-clean : (m : ℕ) (s : List ℕ) → clean-byte (suc m) s ≡ is_clean_from m s
byte-clean m s =
    let less : suc m - 1 ≡ m = omega arith in
    ap (λ (t : Bool). cond t false (is_clean_from (suc m - 1) s)) (not-none m) ∙ ap (λ (i : ℕ). is_clean_from i s) less

pub clean-on : (k b : ℕ) (s : List ℕ) → is_clean_from (suc k) (b ∷ s) ≡ is_clean_from k s
unfolding is_clean_from
clean-on k b s = ap (λ (m : ℕ). clean-byte m s) (now-left Text k (b ∷ s)) ∙ byte-clean k s

pub clean-at : (n b : ℕ) (s : List ℕ) → kept_bytes Text (b ∷ s) ≡ suc n → is_clean_from 0 (b ∷ s) ≡ is_clean_from n s
unfolding is_clean_from
clean-at n b s e = ap (λ (m : ℕ). clean-byte m s) e ∙ byte-clean n s

pub not-clean-at : (b : ℕ) (s : List ℕ) → kept_bytes Text (b ∷ s) ≡ 0 → is_clean_from 0 (b ∷ s) ≡ false
unfolding is_clean_from
not-clean-at b s e = ap (λ (m : ℕ). clean-byte m s) e

-- the same, as a loop over the places has it
pub clean-next : (text : List ℕ) (place left kept : ℕ) (r : Bool) → place < length text → kept ≡ kept_now Text left (take (length text - place) (drop place text)) → ¬ (kept ≡ 0)
    → is_clean_from left (drop place text) ≡ r → is_clean_from (kept - 1) (drop (place + 1) text) ≡ r
unfolding is_clean_from
clean-next text place left kept r h is some e =
    let s : List ℕ = drop (suc place) text in
    let next : drop place text ≡ get_or text place 0 ∷ s = drop-cons text place 0 h in
    let all : take (length text - place) (drop place text) ≡ drop place text = take_all (length text - place) (drop place text) (omega (arith, length-drop place text)) in
    rw (add-one) (sym (go (eqb kept 0) refl) ∙ ap (λ (m : ℕ). clean-byte m s) (is ∙ ap (kept_now Text left) (all ∙ next)) ∙ sym (ap (is_clean_from left) next) ∙ e)
  where
    go : (t : Bool) → eqb kept 0 ≡ t → cond t false (is_clean_from (kept - 1) (drop (suc place) text)) ≡ is_clean_from (kept - 1) (drop (suc place) text)
    go true z = absurd (some (eqb-true kept 0 z))
    go false z = refl
