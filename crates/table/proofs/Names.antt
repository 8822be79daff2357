-- A name in 12 bytes, one byte at a time, and that it keeps the name: names that fill up to the same bytes are the same.
use Rattle.std.proofs.Common.{ℕ, zero, suc, ◌≤◌, ◌≡◌, refl, sym, ap, ◌∙◌, true, ◌&&◌, List, [], ◌∷◌, ◌++◌, ne_eqb, leb-true, leb, length, take, drop, replicate, length-take-le, take_all}
use Rattle.std.proofs.Math.Bool.{and-eq-true_iff}
use Rattle.std.proofs.lemmas.Bool.{false≢true}
use Rattle.std.specs.List.{list_all}
use Rattle.texts.specs.Bytes.{is_name_byte}
use Rattle.texts.specs.Cut.{up_to}
use Rattle.texts.specs.Fields.{is_name}
use Rattle.table.specs.declared.tasks.name.Name.{Name}
use Rattle.table.specs.Tasks.{pack_name, name_text}

abbrev zeros : List ℕ
zeros = replicate 12 0

only-zeros : (n k : ℕ) → up_to 0 (drop n (replicate k 0)) ≡ []
unfolding up_to
only-zeros zero zero = refl
only-zeros zero (suc k) = refl
only-zeros (suc n) zero = refl
only-zeros (suc n) (suc k) = only-zeros n k

unpacked : (f z : List ℕ) → up_to 0 z ≡ [] → list_all is_name_byte f ≡ true → up_to 0 (f ++ z) ≡ f
unfolding up_to
unpacked [] z e h = e
unpacked (b ∷ f) z e h =
    let p = (and-eq-true_iff (is_name_byte b) (list_all is_name_byte f)).0 h in
    let ne : b ≡ 0 → ⊥ = (λ q. false≢true (rw q at p).0) in
    rw (ne_eqb b 0 ne) (ap (λ (l : List ℕ). b ∷ l) (unpacked f z e p.1))

module _ (f : List ℕ) (h : is_name f ≡ true) where
  name-bytes : list_all is_name_byte f ≡ true
  unfolding is_name
  name-bytes = ((and-eq-true_iff (leb 1 (length f) && leb (length f) 12) (list_all is_name_byte f)).0 h).1

  pub name-short : length f ≤ 12
  unfolding is_name
  name-short =
      let p = (and-eq-true_iff (leb 1 (length f) && leb (length f) 12) (list_all is_name_byte f)).0 h in
      leb-true (length f) 12 ((and-eq-true_iff (leb 1 (length f)) (leb (length f) 12)).0 p.0).1

  -- the name in the 12 bytes is the field that was packed
  pub name-kept : name_text (pack_name f) ≡ f
  name-kept = rw (take_all 12 f name-short) (unpacked f (drop (length f) (replicate 12 0)) (only-zeros (length f) 12) name-bytes)

-- a name has one spelling
pub name-unique : (f g : List ℕ) → is_name f ≡ true → is_name g ≡ true → pack_name f ≡ pack_name g → f ≡ g
name-unique f g h k e = sym (name-kept f h) ∙ ap name_text e ∙ name-kept g k

pub room-for-name : (f : List ℕ) → is_name f ≡ true → length (take (length f) zeros) ≡ length f
room-for-name f h = length-take-le (length f) zeros (name-short f h)

-- the name that a field says: its bytes, with zeros behind them
pub read-named : (f g : List ℕ) → is_name f ≡ true → g ≡ f → ◌≡◌ {A = Name} (record { bytes = g ++ drop (length f) zeros }) (pack_name f)
read-named f g h e = rw (e, take_all 12 f (name-short f h))
