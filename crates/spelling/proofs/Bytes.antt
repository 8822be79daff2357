-- Each byte of a character has what its number has, where every byte from 128 on has it.
use Rattle.std.proofs.Common.{◌≡◌, ℕ, zero, suc, ◌<◌, ◌≤◌, Bool, true, false, true≢false, cond, not, ◌&&◌, ◌||◌, eqb, eqb-true, nat_lt, nat_le, List, [], ◌∷◌, refl, sym, subst, arith, leb-true, ltb-false}
use Rattle.std.proofs.lemmas.Bool.{eqb-false}
use Rattle.spelling.specs.declared.Character.{Character}
use Rattle.spelling.specs.Spelling.{byte_in, no_character, character_of, is_later, of_three, of_four, code_of_two, code_of_three, code_of_four, many_bytes, character_from, first_character}

module _ (Has : ℕ → Type 0) (large-has : (b : ℕ) → 128 ≤ b → Has b) (at : ℕ → ℕ) where
  abbrev Fine : Character → Type 0
  Fine c = Has c.code → (j : ℕ) → j < c.bytes → Has (at j)

  none-fine : Fine no_character
  none-fine p j h = absurd (omega (arith, h))

  large-fine : (n code : ℕ) → ((j : ℕ) → j < n → 128 ≤ at j) → Fine (character_of n code)
  large-fine n code large p j h = large-has (at j) (large j h)

  three-fine : (code : ℕ) → ((j : ℕ) → j < 3 → 128 ≤ at j) → Fine (of_three code)
  three-fine code large = go (nat_lt code 2048 || (nat_le 55296 code && nat_lt code 57344))
    where
      go : (t : Bool) → Fine (cond t no_character (character_of 3 code))
      go true = none-fine
      go false = large-fine 3 code large

  four-fine : (code : ℕ) → ((j : ℕ) → j < 4 → 128 ≤ at j) → Fine (of_four code)
  four-fine code large = go (nat_lt code 65536 || nat_le 1114112 code)
    where
      go : (t : Bool) → Fine (cond t no_character (character_of 4 code))
      go true = none-fine
      go false = large-fine 4 code large

  later-large : (b : ℕ) → is_later b ≡ true → 128 ≤ b
  later-large b e = go (nat_le 128 b) refl e
    where
      go : (t : Bool) → nat_le 128 b ≡ t → (t && nat_lt b 192) ≡ true → 128 ≤ b
      go true p q = leb-true 128 b p
      go false p q = absurd (true≢false (sym q))

  next-large : (n : ℕ) → ((j : ℕ) → j < n → 128 ≤ at j) → 128 ≤ at n → (j : ℕ) → j < suc n → 128 ≤ at j
  next-large n large here j h = go (eqb j n) refl
    where
      go : (t : Bool) → eqb j n ≡ t → 128 ≤ at j
      go true p = subst (λ (k : ℕ). 128 ≤ at k) (sym (eqb-true j n p)) here
      go false p = large j (let other = eqb-false j n p in omega (arith, h))

  last-fine : ((j : ℕ) → j < 3 → 128 ≤ at j) → (code : ℕ) (b x : Bool) → is_later (at 3) ≡ b → Fine (cond (not b || x) no_character (of_four code))
  last-fine large code false x e = none-fine
  last-fine large code true true e = none-fine
  last-fine large code true false e = four-fine code (next-large 3 large (later-large (at 3) e))

  third-fine : ((j : ℕ) → j < 2 → 128 ≤ at j) → (three four : ℕ) (b x y : Bool) → is_later (at 2) ≡ b
      → Fine (cond (not b) no_character (cond x (of_three three) (cond (not (is_later (at 3)) || y) no_character (of_four four))))
  third-fine large three four false x y e = none-fine
  third-fine large three four true true y e = three-fine three (next-large 2 large (later-large (at 2) e))
  third-fine large three four true false y e = last-fine (next-large 2 large (later-large (at 2) e)) four (is_later (at 3)) y refl

  second-fine : 128 ≤ at 0 → (two three four : ℕ) (b x y z : Bool) → is_later (at 1) ≡ b
      → Fine (cond (not b) no_character (cond x (character_of 2 two) (cond (not (is_later (at 2))) no_character (cond y (of_three three) (cond (not (is_later (at 3)) || z) no_character (of_four four))))))
  second-fine first two three four false x y z e = none-fine
  second-fine first two three four true x y z e = go x
    where
      large : (j : ℕ) → j < 2 → 128 ≤ at j
      large = next-large 1 (next-large 0 (λ j h. absurd (omega (arith, h))) first) (later-large (at 1) e)

      go : (t : Bool) → Fine (cond t (character_of 2 two) (cond (not (is_later (at 2))) no_character (cond y (of_three three) (cond (not (is_later (at 3)) || z) no_character (of_four four)))))
      go true = large-fine 2 two large
      go false = third-fine large three four (is_later (at 2)) y z refl

  fine : Fine (character_from (at 0) (at 1) (at 2) (at 3))
  fine = go (nat_lt (at 0) 128) refl
    where
      alone : Fine (character_of 1 (at 0))
      alone p zero h = p
      alone p (suc j) h = absurd (omega (arith, h))

      go : (t : Bool) → nat_lt (at 0) 128 ≡ t → Fine (cond t (character_of 1 (at 0)) (many_bytes (at 0) (at 1) (at 2) (at 3)))
      go true e = alone
      go false e = second-fine (ltb-false (at 0) 128 e) (code_of_two (at 0) (at 1)) (code_of_three (at 0) (at 1) (at 2)) (code_of_four (at 0) (at 1) (at 2) (at 3)) (is_later (at 1))
          (nat_le 194 (at 0) && nat_lt (at 0) 224) (nat_le 224 (at 0) && nat_lt (at 0) 240) (nat_lt (at 0) 240 || nat_le 248 (at 0)) refl

pub first-has : (Has : ℕ → Type 0) → ((b : ℕ) → 128 ≤ b → Has b) → (s : List ℕ) → Has (first_character s).code → (j : ℕ) → j < (first_character s).bytes → Has (byte_in s j)
unfolding first_character
first-has Has large s p = fine Has large (byte_in s) p

-- the first bytes of a text have it
abbrev pub AllFirst : (ℕ → Type 0) → ℕ → List ℕ → Type 0
AllFirst Has zero s = Unit {0}
AllFirst Has (suc k) [] = Unit {0}
AllFirst Has (suc k) (b ∷ s) = Has b × AllFirst Has k s

pub all-first : (Has : ℕ → Type 0) (k : ℕ) (s : List ℕ) → ((j : ℕ) → j < k → Has (byte_in s j)) → AllFirst Has k s
all-first Has zero s h = tt
all-first Has (suc k) [] h = tt
all-first Has (suc k) (b ∷ s) h = (h 0 (omega arith), all-first Has k s (λ j l. h (suc j) (omega (arith, l))))
