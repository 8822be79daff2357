-- Where a byte is found: the parts before it and after it, and the fields of a line.
use Rattle.std.proofs.Math.Seq.{take-length}
use Rattle.std.proofs.lemmas.Bool.{false≢true}
use Rattle.std.specs.Prelude.{Option, Some, None, is_some, IsTrue, position}
use Rattle.std.specs.List.{position_or_len, slice_split, onto_first}
use Rattle.std.specs.Option.{option_map_or}
use Rattle.std.proofs.lemmas.List.Splits.{slice_split_first, length-slice_split}
use Rattle.std.proofs.Common.{Bor, ℕ, suc, ◌+◌, ◌-◌, ◌<◌, ◌≤◌, ◌≡◌, refl, sym, ap, ◌∙◌, Bool, true, false, not, cond, List, [], ◌∷◌, arith, ltb-true, ltb-false, eqb, ltb, length, take, drop, length-drop}
use Rattle.texts.specs.Cut.{up_to, after, fields}
use Rattle.texts.proofs.Parts.{up-to-part, part-beyond, none-beyond}

-- a byte that is found stands within the list, and else none is in it
pub found : {X : Type 0} (p : X → Bool) (s : List X) (e : ℕ) → position p s ≡ Some e → (position_or_len p s ≡ e) × (e < length s)
found p s e h = go (ltb (position_or_len p s) (length s)) refl h
  where
    go : (t : Bool) → ltb (position_or_len p s) (length s) ≡ t → cond t (Some (position_or_len p s)) None ≡ Some e → (position_or_len p s ≡ e) × (e < length s)
    go true q k = let same : position_or_len p s ≡ e = cc in (same, omega (arith, ltb-true _ _ q))
    go false q k = let z : ◌≡◌ {A = ℕ} 0 1 = cc in absurd (omega arith)

pub missing : {X : Type 0} (p : X → Bool) (s : List X) → position p s ≡ None → length s ≤ position_or_len p s
missing p s h = go (ltb (position_or_len p s) (length s)) refl h
  where
    go : (t : Bool) → ltb (position_or_len p s) (length s) ≡ t → cond t (Some (position_or_len p s)) None ≡ None → length s ≤ position_or_len p s
    go true q k = let z : ◌≡◌ {A = ℕ} 0 1 = cc in absurd (omega arith)
    go false q k = ltb-false _ _ q

up-to-length : (c : ℕ) (s : List ℕ) → length (up_to c s) ≡ position_or_len (λ b. eqb b c) s
unfolding up_to
up-to-length c [] = refl
up-to-length c (b ∷ s) = go (eqb b c) (up-to-length c s)
  where
    go : (t : Bool) → length (up_to c s) ≡ position_or_len (λ b. eqb b c) s → length (cond t [] (b ∷ up_to c s)) ≡ cond (not t) (1 + position_or_len (λ b. eqb b c) s) 0
    go true h = refl
    go false h = omega arith

module _ (c : ℕ) (s : List ℕ) where
  pub before-found : (e : ℕ) → position (λ b. eqb b c) s ≡ Some e → take e s ≡ up_to c s
  before-found e h = rw (← (found _ s e h).0, ← up-to-length c s) (up-to-part c s)

  pub end-found : (e : ℕ) → position (λ b. eqb b c) s ≡ Some e → e ≡ length (up_to c s)
  end-found e h = sym (found _ s e h).0 ∙ sym (up-to-length c s)

  pub after-found : (e : ℕ) → position (λ b. eqb b c) s ≡ Some e → take (length s - (e + 1)) (drop (e + 1) s) ≡ after c s
  after-found e h = part-beyond c s e (sym (found _ s e h).0 ∙ sym (up-to-length c s))

  pub before-missing : position (λ b. eqb b c) s ≡ None → s ≡ up_to c s
  before-missing h =
      let l = missing _ s h in
      sym (lib.Seq.take_all (length (up_to c s)) s (omega (arith, up-to-length c s))) ∙ up-to-part c s

  pub after-missing : position (λ b. eqb b c) s ≡ None → [] ≡ after c s
  after-missing h = none-beyond c s _ (sym (up-to-length c s)) (missing _ s h)

-- ---- the fields of a line

pub fields_step : (line : List ℕ) (e : ℕ) → position (λ b. eqb b 9) line ≡ Some e → fields line ≡ take e line ∷ fields (take (length line - (e + 1)) (drop (e + 1) line))
fields_step line e h =
    let at = found _ line e h in
    rw (← length-drop (e + 1) line, take-length, ← at.0) (slice_split_first (λ b. eqb b 9) line 0 (omega (arith, at.0)))

one_part : {X : Type 0} (p : X → Bool) (s : List X) → length s ≤ position_or_len p s → slice_split p s ≡ s ∷ []
one_part p [] h = refl
one_part p (b ∷ s) h = go (p b) (one_part p s) h
  where
    go : (t : Bool) → (length s ≤ position_or_len p s → slice_split p s ≡ s ∷ []) → suc (length s) ≤ cond (not t) (1 + position_or_len p s) 0
        → cond t ([] ∷ slice_split p s) (onto_first b (slice_split p s)) ≡ (b ∷ s) ∷ []
    go true ih k = absurd (omega arith)
    go false ih k = ap (onto_first b) (ih (omega arith))

pub fields_last : (line : List ℕ) → position (λ b. eqb b 9) line ≡ None → fields line ≡ line ∷ []
fields_last line h = one_part _ line (missing _ line h)

-- a line has a field
pub some-field : (line : List ℕ) → fields line ≡ [] → ⊥
some-field line e = omega (arith, ap length e, length-slice_split (λ b. eqb b 9) line)

-- what is left is nothing just where no line is left
pub nothing-left : (rest : Option (Bor (List ℕ))) (v : List (List ℕ)) → option_map_or (λ line. fields line.now) rest [] ≡ v → (b : Bool) → is_some rest ≡ not b → (IsTrue b → v ≡ []) × (v ≡ [] → IsTrue b)
nothing-left None v e b q = (λ h. sym e, λ h. none b q)
  where
    none : (b : Bool) → false ≡ not b → IsTrue b
    none true q = refl
    none false q = absurd (false≢true q)
nothing-left (Some line) v e b q = (λ h. absurd (false≢true (sym (some b q) ∙ h)), λ h. absurd (some-field line.now (e ∙ h)))
  where
    some : (b : Bool) → true ≡ not b → b ≡ false
    some false q = refl
    some true q = absurd (false≢true (sym q))
