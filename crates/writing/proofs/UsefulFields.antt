-- The field of useful blocks and its reading: what is written is read as they are, and a field that is read is what is written of what it says.
use Rattle.std.proofs.Common.{◌≡◌, refl, sym, ap, ◌∙◌, Bool, true, false, cond, ◌||◌, List, ℕ, zero, suc, ◌-◌, ◌%◌, ◌≤◌, ◌<◌, arith, lit<, length, get_or, ext_get_or, ltb, eqb, le-leb, le-ltb, eq-eqb, ne_eqb, eqb-true}
use Rattle.std.proofs.Math.Bool.{and-eq-true_iff}
use Rattle.std.proofs.Math.Decide.{dec_lt}
use Rattle.std.proofs.lemmas.Bool.{false≢true}
use Rattle.std.proofs.lemmas.List.{get_or_past}
use Rattle.std.specs.Prelude.{Some, option_map}
use Rattle.cache.specs.declared.sets.CacheSet.{CacheSet}
use Rattle.cache.specs.declared.useful.Form.{Form}
use Rattle.cache.specs.declared.useful.Form.TheVariants.{Hex, Digits}
use Rattle.cache.specs.declared.useful.Useful.{Useful}
use Rattle.cache.specs.Sets.{Set, ∅, ◌∩◌}
use Rattle.cache.specs.Words.{members, is_blank, is_part}
use Rattle.cache.specs.Counts.{Counts, nothing, of_set, ◌⊕◌, capped}
use Rattle.cache.specs.Levels.{set_at, level, heights, counts, leveled, marked}
use Rattle.cache.specs.UsefulField.{ways_of, read_useful, within_ways}
use Rattle.cache.proofs.SetLaws.{and_right}
use Rattle.cache.proofs.WordLaws.{WordsInRange, members-empty, part-shared}
use Rattle.cache.proofs.CountLaws.{capped-within}
use Rattle.cache.proofs.LevelLaws.{heights-le}
use Rattle.cache.proofs.StackLaws.{Stacked, leveled-back}
use Rattle.writing.specs.Marks.{marks_text, marks_fit, count_digits, useful_text, level_fits, useful_fits}
use Rattle.writing.proofs.CountDigits.{counts-long, written-counts, digits-are, digits-within}
use Rattle.writing.proofs.Fields.{marks-read, marks-range, marks-below}

abbrev blank : CacheSet
blank = record { w0 = 0; w1 = 0; w2 = 0; w3 = 0 }

-- ---- what the test of the levels says

pub record LevelFits (ways sets : ℕ) (levels : List CacheSet) (l : ℕ) : Type 0 where
  pub marks : marks_fit sets (set_at levels l) ≡ true
  pub low : (ltb l ways || is_blank (set_at levels l)) ≡ true
  pub part : (eqb l 0 || is_part (set_at levels l) (set_at levels (l - 1))) ≡ true

level-says : (ways sets : ℕ) (levels : List CacheSet) (l : ℕ) → level_fits ways sets levels l ≡ true → LevelFits ways sets levels l
unfolding level_fits
level-says ways sets levels l e =
    let p = (and-eq-true_iff _ _).0 e in
    let q = (and-eq-true_iff _ _).0 p.0 in
    record { marks = q.0; low = q.1; part = p.1 }

pub record Fitting (ways sets : ℕ) (levels : List CacheSet) : Type 0 where
  pub long : length levels ≡ 8
  pub each : (l : ℕ) → l < 8 → LevelFits ways sets levels l

pub fitting : (form : Form) (sets : ℕ) (u : Useful) → useful_fits form sets u ≡ true → Fitting (ways_of form) sets u.levels
unfolding useful_fits
fitting form sets u e =
    let p7 = (and-eq-true_iff _ _).0 e in
    let p6 = (and-eq-true_iff _ _).0 p7.0 in
    let p5 = (and-eq-true_iff _ _).0 p6.0 in
    let p4 = (and-eq-true_iff _ _).0 p5.0 in
    let p3 = (and-eq-true_iff _ _).0 p4.0 in
    let p2 = (and-eq-true_iff _ _).0 p3.0 in
    let p1 = (and-eq-true_iff _ _).0 p2.0 in
    let p0 = (and-eq-true_iff _ _).0 p1.0 in
    record { long = eqb-true _ _ p0.0; each = λ l h. level-says (ways_of form) sets u.levels l (at l p0.1 p1.1 p2.1 p3.1 p4.1 p5.1 p6.1 p7.1 h) }
  where
    f : ℕ → Bool
    f = level_fits (ways_of form) sets u.levels

    at : (l : ℕ) → f 0 ≡ true → f 1 ≡ true → f 2 ≡ true → f 3 ≡ true → f 4 ≡ true → f 5 ≡ true → f 6 ≡ true → f 7 ≡ true → l < 8 → f l ≡ true
    at zero a b c d e g h i k = a
    at (suc zero) a b c d e g h i k = b
    at (suc (suc zero)) a b c d e g h i k = c
    at (suc (suc (suc zero))) a b c d e g h i k = d
    at (suc (suc (suc (suc zero)))) a b c d e g h i k = e
    at (suc (suc (suc (suc (suc zero))))) a b c d e g h i k = g
    at (suc (suc (suc (suc (suc (suc zero)))))) a b c d e g h i k = h
    at (suc (suc (suc (suc (suc (suc (suc zero))))))) a b c d e g h i k = i
    at (suc (suc (suc (suc (suc (suc (suc (suc l)))))))) a b c d e g h i k = absurd (omega arith)

blank-is : (c : CacheSet) → is_blank c ≡ true → c ≡ blank
blank-is c e =
    let r = (and-eq-true_iff _ _).0 e in
    let s = (and-eq-true_iff _ _).0 r.0 in
    let t = (and-eq-true_iff _ _).0 s.0 in
    let e0 = eqb-true c.w0 0 t.0 in
    let e1 = eqb-true c.w1 0 t.1 in
    let e2 = eqb-true c.w2 0 s.1 in
    let e3 = eqb-true c.w3 0 r.1 in
    λ i. record { w0 = e0 i; w1 = e1 i; w2 = e2 i; w3 = e3 i }

blank-in-range : WordsInRange blank
blank-in-range = record { in0 = lit< tt; in1 = lit< tt; in2 = lit< tt; in3 = lit< tt }

or-other : (a b : Bool) → a ≡ false → (a || b) ≡ true → b ≡ true
or-other a b e h = sym (ap (λ (x : Bool). x || b) e) ∙ h

none-set : (s : ℕ) → members blank s ≡ true → ⊥
unfolding ∅
none-set s e = false≢true (ap (λ (A : Set). A s) (sym members-empty) ∙ e)

module _ {ways sets : ℕ} {levels : List CacheSet} (p : Fitting ways sets levels) where
  -- past the last level there is nothing
  beyond : (l : ℕ) → 8 ≤ l → set_at levels l ≡ blank
  beyond l h = get_or_past levels l blank (omega (arith, p.long))

  ranged : (l : ℕ) → WordsInRange (set_at levels l)
  ranged l = elim (dec_lt l 8) [ yes h ↦ marks-range sets (set_at levels l) (p.each l h).marks | no h ↦ rw (beyond l (omega arith)) blank-in-range ]

  down : (l s : ℕ) → level levels (suc l) s ≡ true → level levels l s ≡ true
  unfolding ◌∩◌
  down l s e = elim (dec_lt (suc l) 8) [
    | yes h ↦ (let back : suc l - 1 ≡ l = omega arith in
        let part = rw back at (or-other _ _ (ne_eqb (suc l) 0 (λ z. omega arith)) (p.each (suc l) h).part) in
        and_right (level levels (suc l) s) (level levels l s)
        (ap (λ (A : Set). A s) (part-shared (set_at levels (suc l)) (set_at levels l) (ranged (suc l)) (ranged l) part) ∙ e))
    | no h ↦ absurd (none-set s (ap (λ (c : CacheSet). members c s) (sym (beyond (suc l) (omega arith))) ∙ e))
  ]

  top : (l : ℕ) → ways ≤ l → l < 8 → set_at levels l ≡ blank
  top l h k = blank-is (set_at levels l) (or-other _ _ (le-ltb l ways h) (p.each l k).low)

  pub stacked : Stacked ways levels
  stacked = record { long = p.long; ranged = ranged; down = down; top = top }

  -- and no cache set but those of the table counts
  pub none-past : sets ≤ 256 → (n s : ℕ) → sets ≤ s → heights n levels s ≡ 0
  unfolding heights nothing ◌⊕◌ of_set
  none-past few zero s h = refl
  none-past few (suc n) s h = omega (arith, none-past few n s h, at (level levels n s) refl)
    where
      at : (b : Bool) → level levels n s ≡ b → ◌≡◌ {A = ℕ} (cond b 1 0) 0
      at false e = refl
      at true e = elim (dec_lt n 8) [
        | yes k ↦ (let l = marks-below sets (set_at levels n) few (p.each n k).marks s e in absurd (omega arith))
        | no k ↦ absurd (none-set s (ap (λ (c : CacheSet). members c s) (sym (beyond n (omega arith))) ∙ e))
      ]

-- ---- what is written is read

module _ (sets : ℕ) (few : sets ≤ 256) (by-four : sets % 4 ≡ 0) where
  hex-read : (u : Useful) → Fitting 1 sets u.levels → read_useful Hex sets (marks_text sets (set_at u.levels 0)) ≡ Some u
  unfolding read_useful
  hex-read u p =
      ap (option_map marked) (marks-read sets few by-four (set_at u.levels 0) (p.each 0 (omega arith)).marks)
      ∙ ap (λ (l : List CacheSet). Some (record { levels = l })) (sym (ext_get_or blank u.levels _ p.long (λ k h. at k (omega (arith, p.long)))))
    where
      at : (k : ℕ) → k < 8 → set_at u.levels k ≡ get_or (marked (set_at u.levels 0)).levels k blank
      at zero h = refl
      at (suc zero) h = (stacked p).top 1 (omega arith) h
      at (suc (suc zero)) h = (stacked p).top 2 (omega arith) h
      at (suc (suc (suc zero))) h = (stacked p).top 3 (omega arith) h
      at (suc (suc (suc (suc zero)))) h = (stacked p).top 4 (omega arith) h
      at (suc (suc (suc (suc (suc zero))))) h = (stacked p).top 5 (omega arith) h
      at (suc (suc (suc (suc (suc (suc zero)))))) h = (stacked p).top 6 (omega arith) h
      at (suc (suc (suc (suc (suc (suc (suc zero))))))) h = (stacked p).top 7 (omega arith) h
      at (suc (suc (suc (suc (suc (suc (suc (suc k)))))))) h = absurd (omega arith)

  counted-read : (ways : ℕ) (u : Useful) → ways ≤ 8 → Fitting ways sets u.levels → read_useful (Digits ways) sets (count_digits sets (counts ways u)) ≡ Some u
  unfolding read_useful
  counted-read ways u w p =
      let U = counts ways u in
      let small = heights-le ways u.levels in
      rw (le-leb sets 256 few, counts-long sets U, eq-eqb sets sets refl, digits-are sets U (λ s. omega (arith, small s)))
      (ap (λ (W : Counts). Some (leveled (capped ways W))) (written-counts sets U (λ s h. none-past p few ways s h))
      ∙ ap (λ (W : Counts). Some (leveled W)) (capped-within ways U small)
      ∙ ap Some (sym (leveled-back ways u (stacked p))))

  -- useful blocks that fit, in a table of any form
  pub useful-read : (form : Form) (u : Useful) → ways_of form ≤ 8 → useful_fits form sets u ≡ true → read_useful form sets (useful_text form sets u) ≡ Some u
  unfolding useful_text
  useful-read Hex u w e = hex-read u (fitting Hex sets u e)
  useful-read (Digits ways) u w e = counted-read ways u w (fitting (Digits ways) sets u e)

  pub useful-within : (form : Form) (u : Useful) → within_ways form (useful_text form sets u) ≡ true
  unfolding within_ways useful_text
  useful-within Hex u = refl
  useful-within (Digits ways) u = digits-within ways sets (counts ways u) (heights-le ways u.levels)
