-- What is clean has no byte that controls a terminal.
use Rattle.std.proofs.Common.{◌≡◌, ℕ, zero, suc, ◌≤◌, Bool, true, false, true≢false, cond, ◌||◌, eqb, eqb-true, nat_le, List, [], ◌∷◌, All, inl, inr, refl, sym, ap, ◌∙◌, arith, le-leb}
use Rattle.std.proofs.lemmas.Bool.{leb-false}
use Rattle.std.proofs.lemmas.List.Elements.{All-nil, All-cons}
use Rattle.spelling.specs.declared.Kind.TheVariants.{Text}
use Rattle.spelling.specs.Spelling.{first_character, is_seen, is_kept, kept_bytes, is_clean_from, is_clean, IsPlain}
use Rattle.spelling.proofs.Bytes.{first-has, AllFirst, all-first}
use Rattle.spelling.proofs.Steps.{clean-on, clean-at, not-clean-at}

large-plain : (b : ℕ) → 128 ≤ b → IsPlain b
large-plain b h = inr (inr (omega (arith, h), λ e. omega (arith, h, e)))

seen-large : (code : ℕ) → is_seen code ≡ true → 32 ≤ code
unfolding is_seen
seen-large code e = go (nat_le code 31) refl
  where
    go : (t : Bool) → nat_le code 31 ≡ t → 32 ≤ code
    go false p = leb-false code 31 p
    go true p = absurd (true≢false (sym e ∙ rw (le-leb 0 code (omega arith), p) refl))

not-seen : is_seen 127 ≡ false
unfolding is_seen
not-seen = refl

seen-plain : (code : ℕ) → is_seen code ≡ true → IsPlain code
seen-plain code e = inr (inr (seen-large code e, λ d. true≢false (sym e ∙ ap is_seen d ∙ not-seen)))

kept-plain : (code : ℕ) → is_kept Text code ≡ true → IsPlain code
kept-plain code = go (is_seen code) (eqb code 10) (eqb code 9) refl refl refl
  where
    go : (x y z : Bool) → is_seen code ≡ x → eqb code 10 ≡ y → eqb code 9 ≡ z → (x || (y || z)) ≡ true → IsPlain code
    go true y z p q r e = seen-plain code p
    go false true z p q r e = inl (eqb-true code 10 q)
    go false false true p q r e = inr (inl (eqb-true code 9 r))
    go false false false p q r e = absurd (true≢false (sym e))

first-plain : (s : List ℕ) (n : ℕ) → kept_bytes Text s ≡ suc n → AllFirst IsPlain (suc n) s
unfolding kept_bytes
first-plain s n = go (is_kept Text (first_character s).code) refl
  where
    go : (t : Bool) → is_kept Text (first_character s).code ≡ t → cond t (first_character s).bytes 0 ≡ suc n → AllFirst IsPlain (suc n) s
    go true k e = all-first IsPlain (suc n) s (λ j h. first-has IsPlain large-plain s (kept-plain (first_character s).code k) j (omega (arith, h, e)))
    go false k e = absurd (omega (arith, e))

byte-plain : (b : ℕ) (s : List ℕ) → ((k : ℕ) → is_clean_from k s ≡ true → AllFirst IsPlain k s → All IsPlain s) → is_clean_from 0 (b ∷ s) ≡ true → (m : ℕ) → kept_bytes Text (b ∷ s) ≡ m
    → All IsPlain (b ∷ s)
byte-plain b s rest c zero e = absurd (true≢false (sym c ∙ not-clean-at b s e))
byte-plain b s rest c (suc n) e =
    let first = first-plain (b ∷ s) n e in
    All-cons IsPlain b s first.0 (rest n (sym (clean-at n b s e) ∙ c) first.1)

plain-from : (s : List ℕ) (k : ℕ) → is_clean_from k s ≡ true → AllFirst IsPlain k s → All IsPlain s
plain-from [] k c h = All-nil IsPlain
plain-from (b ∷ s) zero c h = byte-plain b s (plain-from s) c (kept_bytes Text (b ∷ s)) refl
plain-from (b ∷ s) (suc k) c h = All-cons IsPlain b s h.0 (plain-from s k (sym (clean-on k b s) ∙ c) h.1)

pub clean_plain : (s : List ℕ) → is_clean s ≡ true → All IsPlain s
clean_plain s c = plain-from s 0 c tt
