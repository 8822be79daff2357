-- A line that is put together from its fields, and a text from its lines: each part is found again.
use Rattle.std.proofs.Common.{◌≡◌, ℕ, suc, ◌+◌, ◌-◌, ◌<◌, Bool, true, false, not, ◌&&◌, cond, List, [], ◌∷◌, ◌++◌, length, get_or, map, flat_map, refl, sym, ap, ap₂, ◌∙◌, arith, length-append, append-nil, ltb-true, lt-ltb, eqb-true, ne_eqb, eq-eqb, ltb, eqb, zero-le, suc-le-suc}
use Rattle.std.proofs.Math.Bool.{and-eq-true_iff}
use Rattle.std.proofs.Math.Seq.{append_snoc, get_or-append-add}
use Rattle.std.specs.List.{All, list_all, join_with_byte}
use Rattle.std.proofs.lemmas.List.Splits.{slice_split_none, slice_split_at}
use Rattle.std.proofs.lemmas.List.Sums.{AllPass-from_list_all}
use Rattle.std.proofs.lemmas.List.Folds.{list_all-append}
use Rattle.texts.specs.Cut.{fields, lead, lines}
use Rattle.texts.proofs.LineSteps.{lines_step}
use Rattle.table.specs.Reading.{is_ended}
use Rattle.table_text.specs.TableText.{line_text}

-- ---- bytes that end neither a field nor a line

-- every byte is above LF and tab
abbrev pub Plain : List ℕ → Type 0
Plain s = list_all (ltb 10) s ≡ true

pub plain-append : (s t : List ℕ) → Plain s → Plain t → Plain (s ++ t)
plain-append s t p q = rw (list_all-append (ltb 10) s t, p, q)

no-tab : (s : List ℕ) → Plain s → All (λ b. eqb b 9 ≡ false) s
no-tab s p k d h =
    let l : 10 < get_or s k d = ltb-true _ _ (AllPass-from_list_all (ltb 10) s p k d h) in
    ne_eqb _ 9 (λ e. omega arith)

abbrev pub AllPlain : List (List ℕ) → Type 0
AllPlain [] = Unit {0}
AllPlain (f ∷ fs) = Plain f × AllPlain fs

-- the fields that are joined are those that are found
fields-joined : (f : List ℕ) (fs : List (List ℕ)) → AllPlain (f ∷ fs) → fields (join_with_byte 9 (f ∷ fs)) ≡ f ∷ fs
fields-joined f [] p = slice_split_none (λ b. eqb b 9) f (no-tab f p.0)
fields-joined f (g ∷ fs) p =
    slice_split_at (λ b. eqb b 9) f 9 (join_with_byte 9 (g ∷ fs)) (no-tab f p.0) refl
    ∙ ap (λ (l : List (List ℕ)). f ∷ l) (fields-joined g fs p.1)

-- ---- a text from its lines

-- no byte is LF
abbrev pub NoEnd : List ℕ → Type 0
NoEnd s = list_all (λ b. not (eqb b 10)) s ≡ true

no-end : (s : List ℕ) → Plain s → NoEnd s
no-end [] p = refl
no-end (b ∷ s) p =
    let both = (and-eq-true_iff (ltb 10 b) (list_all (ltb 10) s)).0 p in
    let l : 10 < b = ltb-true 10 b both.0 in
    rw (ne_eqb b 10 (λ e. omega arith)) (no-end s both.1)

joined-no-end : (fs : List (List ℕ)) → AllPlain fs → NoEnd (join_with_byte 9 fs)
joined-no-end [] p = refl
joined-no-end (f ∷ []) p = no-end f p.0
joined-no-end (f ∷ g ∷ fs) p =
    rw (list_all-append (λ b. not (eqb b 10)) f (9 ∷ join_with_byte 9 (g ∷ fs)), no-end f p.0) (joined-no-end (g ∷ fs) p.1)

line_at : (l rest : List ℕ) → NoEnd l → lines (l ++ (10 ∷ rest)) ≡ l ∷ lines rest
unfolding lines
line_at [] rest p = refl
line_at (b ∷ l) rest p = go (eqb b 10) p (λ q. line_at l rest q)
  where
    go : (t : Bool) → (not t && list_all (λ b. not (eqb b 10)) l) ≡ true → (NoEnd l → lines (l ++ (10 ∷ rest)) ≡ l ∷ lines rest)
        → cond t ([] ∷ lines (l ++ (10 ∷ rest))) (lead b (lines (l ++ (10 ∷ rest)))) ≡ (b ∷ l) ∷ lines rest
    go true q ih = cc
    go false q ih = ap (lead b) (ih q)

-- fields that make a line: they are found again in it, and it holds no LF
abbrev pub IsLine : List (List ℕ) → Type 0
IsLine l = (fields (join_with_byte 9 l) ≡ l) × NoEnd (join_with_byte 9 l)

pub is-line : (f : List ℕ) (fs : List (List ℕ)) → AllPlain (f ∷ fs) → IsLine (f ∷ fs)
is-line f fs p = (fields-joined f fs p, joined-no-end (f ∷ fs) p)

abbrev pub AreLines : List (List (List ℕ)) → Type 0
AreLines [] = Unit {0}
AreLines (l ∷ ls) = IsLine l × AreLines ls

pub are-lines-append : (ls ms : List (List (List ℕ))) → AreLines ls → AreLines ms → AreLines (ls ++ ms)
are-lines-append [] ms p q = q
are-lines-append (l ∷ ls) ms p q = (p.0, are-lines-append ls ms p.1 q)

-- the lines of a text that is put together are its lines
pub lines-written : (ls : List (List (List ℕ))) → AreLines ls → lines (flat_map line_text ls) ≡ map (join_with_byte 9) ls
unfolding lines
lines-written [] p = refl
lines-written (l ∷ ls) p =
    ap lines (append_snoc (join_with_byte 9 l) 10 (flat_map line_text ls))
    ∙ line_at (join_with_byte 9 l) (flat_map line_text ls) p.0.1
    ∙ ap (λ (m : List (List ℕ)). join_with_byte 9 l ∷ m) (lines-written ls p.1)

-- and their fields are its fields
pub fields-found : (ls : List (List (List ℕ))) → AreLines ls → map fields (map (join_with_byte 9) ls) ≡ ls
fields-found [] p = refl
fields-found (l ∷ ls) p = ap₂ (λ (m : List (List ℕ)) (ms : List (List (List ℕ))). m ∷ ms) p.0.0 (fields-found ls p.1)

-- ---- a text that ends with LF is its lines, each with its LF

abbrev pub with_end : List ℕ → List ℕ
with_end l = l ++ (10 ∷ [])

-- the last byte is LF, where there is one
abbrev LastEnds : List ℕ → Type 0
LastEnds [] = Unit {0}
LastEnds (b ∷ []) = b ≡ 10
LastEnds (b ∷ c ∷ s) = LastEnds (c ∷ s)

last-at : (b : ℕ) (s : List ℕ) → get_or (b ∷ s) (length s) 0 ≡ 10 → LastEnds (b ∷ s)
last-at b [] e = e
last-at b (c ∷ s) e = last-at c s e

last-ends : (s : List ℕ) → is_ended s ≡ true → LastEnds s
last-ends [] e = tt
last-ends (b ∷ s) e =
    let last : suc (length s) - 1 ≡ length s = omega arith in
    let ends = ((and-eq-true_iff (ltb 0 (suc (length s))) (eqb (get_or (b ∷ s) (suc (length s) - 1) 0) 10)).0 e).1 in
    last-at b s (rw last at (eqb-true (get_or (b ∷ s) (suc (length s) - 1) 0) 10 ends))

ended-last : (s : List ℕ) → LastEnds s → flat_map with_end (lines s) ≡ s
unfolding lines
ended-last [] h = refl
ended-last (b ∷ []) h = rw (eq-eqb b 10 h) (ap (λ (x : ℕ). x ∷ []) (sym h))
ended-last (b ∷ c ∷ s) h = go (eqb b 10) refl (ended-last (c ∷ s) h)
  where
    go : (t : Bool) → eqb b 10 ≡ t → flat_map with_end (lines (c ∷ s)) ≡ c ∷ s → flat_map with_end (cond t ([] ∷ lines (c ∷ s)) (lead b (lines (c ∷ s)))) ≡ b ∷ c ∷ s
    go true e ih = ap₂ (λ (x : ℕ) (l : List ℕ). x ∷ l) (sym (eqb-true b 10 e)) ih
    go false e ih =
        let step = lines_step (c ∷ s) (suc-le-suc zero-le) in
        rw step (ap (λ (l : List ℕ). b ∷ l) (rw step at ih))

pub ended-lines : (text : List ℕ) → is_ended text ≡ true → flat_map with_end (lines text) ≡ text
ended-lines text e = ended-last text (last-ends text e)

-- and what is put together so is ended
ended-after : (s t : List ℕ) → is_ended t ≡ true → is_ended (s ++ t) ≡ true
ended-after s t e =
    let p = (and-eq-true_iff (ltb 0 (length t)) (eqb (get_or t (length t - 1) 0) 10)).0 e in
    let some : 0 < length t = ltb-true 0 (length t) p.0 in
    let last : length s + length t - 1 ≡ length s + (length t - 1) = omega arith in
    rw (length-append, lt-ltb 0 (length s + length t) (omega arith), last, get_or-append-add s t (length t - 1) 0) p.1

pub is-ended : (l : List (List ℕ)) (ls : List (List (List ℕ))) → is_ended (flat_map line_text (l ∷ ls)) ≡ true
is-ended l [] = rw (append-nil (line_text l)) (ended-after (join_with_byte 9 l) (10 ∷ []) refl)
is-ended l (m ∷ ls) = ended-after (line_text l) (flat_map line_text (m ∷ ls)) (is-ended m ls)
