-- Laws of a cache-set field.
use Rattle.std.proofs.Common.{◌≡◌, refl, sym, ap, ◌∙◌, Bool, true, false, ◌&&◌, cond, List, ℕ, ◌/◌, ◌%◌, ◌^◌, ◌≤◌, ◌<◌, lt_of_lt_of_le, arith, length, pow_mono, leb, eqb, lit<, leb-true, le-leb, eq-eqb, ne_eqb, eqb-true}
use Rattle.std.proofs.Math.Decide.{dec_lt}
use Rattle.std.proofs.Math.Nat.{div-eq_of_lt}
use Rattle.std.proofs.lemmas.Bool.{lt-leb}
use Rattle.cache.specs.Hex.{read_hex}
use Rattle.cache.proofs.HexLaws.{read-lt, read-inj}
use Rattle.cache.specs.declared.sets.CacheSet.{CacheSet}
use Rattle.std.specs.Prelude.{Option, Some, None, option_map}
use Rattle.cache.specs.Field.{read_set}
use Rattle.cache.specs.Words.{bits_of, number_of, words_of, members}
use Rattle.cache.proofs.WordLaws.{number-words, members-words}
use Rattle.cache.proofs.SetLaws.{and_left, and_right}

-- ---- a field by its length

module _ (f : List ℕ) (sets : ℕ) where
  pub too_many : 256 < sets → read_set sets f ≡ None
  unfolding read_set
  too_many h = simp (lt-leb _ _ h)

  pub wrong-length : sets ≤ 256 → (length f ≡ sets / 4 → ⊥) → read_set sets f ≡ None
  unfolding read_set
  wrong-length h n = simp (le-leb _ _ h, ne_eqb _ _ n)

  pub right-length : sets ≤ 256 → length f ≡ sets / 4 → read_set sets f ≡ option_map words_of (read_hex 0 f)
  unfolding read_set
  right-length h e = simp (le-leb _ _ h, eq-eqb _ _ e)

-- ---- what is known of a field that says a set

-- its number, the set of that number, and its length
pub record Says (sets : ℕ) (f : List ℕ) (c : CacheSet) : Type 0 where
  pub value : ℕ
  pub read : read_hex 0 f ≡ Some value
  pub is : words_of value ≡ c
  pub long : length f ≡ sets / 4
  pub most : sets ≤ 256

said : (o : Option ℕ) (c : CacheSet) → option_map words_of o ≡ Some c → (n : ℕ) × (o ≡ Some n) × (words_of n ≡ c)
said (Some n) c e = (n, refl, cc)
said None c e = let z : ◌≡◌ {A = ℕ} 0 1 = cc in absurd (omega arith)

pub says : (sets : ℕ) (f : List ℕ) (c : CacheSet) → read_set sets f ≡ Some c → Says sets f c
unfolding read_set
says sets f c e = go (leb sets 256 && eqb (length f) (sets / 4)) refl e
  where
    go : (t : Bool) → (leb sets 256 && eqb (length f) (sets / 4)) ≡ t → cond t (option_map words_of (read_hex 0 f)) None ≡ Some c → Says sets f c
    go true t e =
        let r = said (read_hex 0 f) c e in
        record {
          value = r.0;
          read = r.1;
          is = r.2;
          long = eqb-true (length f) (sets / 4) (and_right (leb sets 256) (eqb (length f) (sets / 4)) t);
          most = leb-true sets 256 (and_left (leb sets 256) (eqb (length f) (sets / 4)) t);
        }
    go false t e = let z : ◌≡◌ {A = ℕ} 0 1 = cc in absurd (omega arith)

-- ---- every mark is below the number of cache sets

pub no-bit : (n s : ℕ) → n < 2 ^ s → bits_of n s ≡ true → ⊥
no-bit n s h e =
    let f : false ≡ true = ap (λ (x : ℕ). eqb (x % 2) 1) (sym (div-eq_of_lt h)) ∙ e in
    let z : ◌≡◌ {A = ℕ} 0 1 = cc in
    omega arith

pub read_below : (sets : ℕ) (f : List ℕ) (c : CacheSet) → sets % 4 ≡ 0 → read_set sets f ≡ Some c → (s : ℕ) → members c s ≡ true → s < sets
read_below sets f c by-four e s m = elim (dec_lt s sets) [ yes l ↦ l | no l ↦ absurd (above l) ]
  where
    r : Says sets f c
    r = says sets f c e

    above : (s < sets → ⊥) → ⊥
    above l =
        no-bit r.value s
        (lt_of_lt_of_le (read-lt f 0 r.value 0 (lit< tt) r.read) (pow_mono (omega (arith, r.long))))
        (ap (λ (A : ℕ → Bool). A s) (sym (members-words r.value) ∙ ap members r.is) ∙ m)

-- ---- one spelling: two fields of one length that say the same set are the same bytes

pub one-spelling : (sets : ℕ) (f g : List ℕ) (c : CacheSet) → read_set sets f ≡ Some c → read_set sets g ≡ Some c → f ≡ g
one-spelling sets f g c p q =
    let u = says sets f c p in
    let v = says sets g c q in
    let e : u.value ≡ v.value = sym (number-words u.value) ∙ ap number_of (u.is ∙ sym v.is) ∙ number-words v.value in
    (read-inj f g 0 0 u.value (u.long ∙ sym v.long) u.read (v.read ∙ ap Some (sym e))).1
