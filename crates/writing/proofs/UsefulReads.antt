-- A field of useful blocks that is read: what it says fits, and the field is what is written of it.
use Rattle.std.proofs.Common.{◌≡◌, refl, sym, ap, ap₂, ◌∙◌, Bool, true, false, cond, ◌&&◌, ◌||◌, List, [], ◌∷◌, ℕ, zero, suc, ◌+◌, ◌-◌, ◌*◌, ◌%◌, ◌^◌, ◌≤◌, ◌<◌, min, lt_of_le_of_lt, zero-le, arith, length, pow-suc, pow_pos, leb, ltb, eqb, bit_and, lt-ltb, le-ltb, eq-eqb, ne_eqb, eqb-true, leb-true, ltb-true, ltb-false}
use Rattle.std.proofs.Math.Bool.{and-eq-true_iff}
use Rattle.std.proofs.Math.Decide.{dec_lt}
use Rattle.std.proofs.Math.Path.{fun_ext}
use Rattle.std.proofs.lemmas.Nat.{and_le_l}
use Rattle.std.specs.Prelude.{Option, Some, None, option_map}
use Rattle.std.specs.List.{list_all}
use Rattle.cache.specs.declared.sets.CacheSet.{CacheSet}
use Rattle.cache.specs.declared.useful.Form.{Form}
use Rattle.cache.specs.declared.useful.Form.TheVariants.{Hex, Digits}
use Rattle.cache.specs.declared.useful.Useful.{Useful}
use Rattle.cache.specs.Sets.{Set, ◌∩◌}
use Rattle.cache.specs.Words.{words_of, members, is_blank, is_part}
use Rattle.cache.specs.Field.{read_set}
use Rattle.cache.specs.Counts.{Counts, nothing, of_set, ◌⊕◌, capped}
use Rattle.cache.specs.Levels.{set_at, heights, counts, above, number_below, set_of, leveled, marked}
use Rattle.std.specs.Char.{is_ascii_digit}
use Rattle.cache.specs.UsefulField.{ways_of, push, counts_of, read_counts, read_useful, within_ways}
use Rattle.cache.proofs.WordLaws.{WordsInRange, each, members-and, members-inj}
use Rattle.cache.proofs.CountLaws.{capped-within}
use Rattle.cache.proofs.UsefulLaws.{members-set, past}
use Rattle.writing.specs.Marks.{marks_text, marks_fit, count_digits, useful_text, level_fits, useful_fits}
use Rattle.writing.proofs.CountDigits.{read-written}
use Rattle.writing.proofs.Fields.{read_fits, read-text, marks-range, number-fits}

abbrev blank : CacheSet
blank = record { w0 = 0; w1 = 0; w2 = 0; w3 = 0 }

-- ---- a set that is made of its members, all of them below n

number-lt : (k : ℕ) (A : Set) → number_below k A < 2 ^ k
unfolding number_below
number-lt zero A = omega arith
number-lt (suc k) A = at (A k) (number-lt k A)
  where
    p : 2 ^ suc k ≡ 2 * 2 ^ k
    p = rw pow-suc (omega arith)

    at : (b : Bool) → number_below k A < 2 ^ k → number_below k A + cond b (2 ^ k) 0 < 2 ^ suc k
    at true h = omega (arith, p)
    at false h = omega (arith, p)

number-cut : (k n : ℕ) (A : Set) → ((s : ℕ) → A s ≡ true → s < n) → n ≤ k → number_below k A ≡ number_below n A
unfolding number_below
number-cut zero n A h l = let e : n ≡ 0 = omega arith in rw e refl
number-cut (suc k) n A h l = elim (dec_lt k n) [
  | yes m ↦ (let e : n ≡ suc k = omega arith in rw e refl)
  | no m ↦ at (omega arith) (A k) refl (number-cut k n A h (omega arith))
]
  where
    at : n ≤ k → (b : Bool) → A k ≡ b → number_below k A ≡ number_below n A → number_below k A + cond b (2 ^ k) 0 ≡ number_below n A
    at m true e i = absurd (omega (arith, h k e, m))
    at m false e i = omega (arith, i)

module _ (sets : ℕ) (few : sets ≤ 256) where
  set-fits : (A : Set) → ((s : ℕ) → A s ≡ true → s < sets) → marks_fit sets (set_of A) ≡ true
  set-fits A h = number-fits sets (number_below 256 A) few (rw (number-cut 256 sets A h few) (number-lt sets A))

  -- one that is in another
  set-part : (A B : Set) → ((s : ℕ) → A s ≡ true → s < sets) → ((s : ℕ) → B s ≡ true → s < sets) → ((s : ℕ) → A s ≡ true → B s ≡ true)
      → is_part (set_of A) (set_of B) ≡ true
  unfolding ◌∩◌
  set-part A B a b h =
      let c = set_of A in
      let d = set_of B in
      let p = marks-range sets c (set-fits A a) in
      let q = marks-range sets d (set-fits B b) in
      let r : WordsInRange (each bit_and c d) = record {
        in0 = lt_of_le_of_lt (and_le_l c.w0 d.w0) p.in0;
        in1 = lt_of_le_of_lt (and_le_l c.w1 d.w1) p.in1;
        in2 = lt_of_le_of_lt (and_le_l c.w2 d.w2) p.in2;
        in3 = lt_of_le_of_lt (and_le_l c.w3 d.w3) p.in3;
      } in
      let same : each bit_and c d ≡ c = members-inj (each bit_and c d) c r p (members-and c d p q ∙ fun_ext (λ s. all (ltb s 256) (A s) (B s) (h s) (members-set A s) (members-set B s))) in
      rw (
        eq-eqb _ _ (ap (λ (x : CacheSet). x.w0) same),
        eq-eqb _ _ (ap (λ (x : CacheSet). x.w1) same),
        eq-eqb _ _ (ap (λ (x : CacheSet). x.w2) same),
        eq-eqb _ _ (ap (λ (x : CacheSet). x.w3) same),
      )
      refl
    where
      all : (l a b : Bool) {x y : Bool} → (a ≡ true → b ≡ true) → x ≡ (l && a) → y ≡ (l && b) → (x && y) ≡ x
      all true true b h p q = rw (p, q, h refl) refl
      all true false b h p q = rw p refl
      all false a b h p q = rw p refl

-- ---- levels of counts that are no larger than the ways, none of them at `sets` or above

at-level : (V : Counts) (l : ℕ) → l < 8 → set_at (leveled V).levels l ≡ set_of (above l V)
at-level V zero h = refl
at-level V (suc zero) h = refl
at-level V (suc (suc zero)) h = refl
at-level V (suc (suc (suc zero))) h = refl
at-level V (suc (suc (suc (suc zero)))) h = refl
at-level V (suc (suc (suc (suc (suc zero))))) h = refl
at-level V (suc (suc (suc (suc (suc (suc zero)))))) h = refl
at-level V (suc (suc (suc (suc (suc (suc (suc zero))))))) h = refl
at-level V (suc (suc (suc (suc (suc (suc (suc (suc l)))))))) h = absurd (omega arith)

module _ (ways sets : ℕ) (few : sets ≤ 256) (most : ways ≤ 8) (V : Counts) (small : (s : ℕ) → V s ≤ ways) (none : (s : ℕ) → sets ≤ s → V s ≡ 0) where
  below : (l s : ℕ) → above l V s ≡ true → s < sets
  unfolding above
  below l s e = elim (dec_lt s sets) [ yes h ↦ h | no h ↦ absurd (omega (arith, ltb-true l (V s) e, none s (omega arith))) ]

  higher : (l s : ℕ) → above (suc l) V s ≡ true → above l V s ≡ true
  unfolding above
  higher l s e = lt-ltb l (V s) (omega (arith, ltb-true (suc l) (V s) e))

  nothing-there : (l : ℕ) → ways ≤ l → set_of (above l V) ≡ blank
  unfolding above words_of number_below
  nothing-there l h =
      ap words_of (number-cut 256 0 (above l V) (λ s e. absurd (omega (arith, ltb-true l (V s) e, small s))) zero-le)

  fits-level : (l : ℕ) → l < 8 → level_fits ways sets (leveled V).levels l ≡ true
  unfolding level_fits
  fits-level l h =
      rw (marks, low, part l h)
    where
      marks : marks_fit sets (set_at (leveled V).levels l) ≡ true
      marks = rw (at-level V l h) (set-fits sets few (above l V) (below l))

      low : (ltb l ways || is_blank (set_at (leveled V).levels l)) ≡ true
      low = elim (dec_lt l ways) [
        | yes m ↦ rw (lt-ltb l ways m) refl
        | no m ↦ rw (le-ltb l ways (omega arith), at-level V l h, nothing-there l (omega arith)) refl
      ]

      part : (l : ℕ) → l < 8 → (eqb l 0 || is_part (set_at (leveled V).levels l) (set_at (leveled V).levels (l - 1))) ≡ true
      part zero h = refl
      part (suc l) h =
          let e : suc l - 1 ≡ l = omega arith in
          rw (e, ne_eqb (suc l) 0 (λ z. omega arith), at-level V (suc l) h, at-level V l (omega arith))
          (set-part sets few (above (suc l) V) (above l V) (below (suc l)) (below l) (higher l))

  pub leveled-fits : useful_fits (Digits ways) sets (leveled V) ≡ true
  unfolding useful_fits
  leveled-fits =
      rw (
        fits-level 0 (omega arith),
        fits-level 1 (omega arith),
        fits-level 2 (omega arith),
        fits-level 3 (omega arith),
        fits-level 4 (omega arith),
        fits-level 5 (omega arith),
        fits-level 6 (omega arith),
        fits-level 7 (omega arith),
      )
      refl

  -- and they count the same
  level-counts : (n s : ℕ) → n ≤ 8 → heights n (leveled V).levels s ≡ min n (V s)
  unfolding heights nothing ◌⊕◌ of_set above
  level-counts zero s h = omega arith
  level-counts (suc n) s h =
      ap₂ (λ (x y : ℕ). x + y) (level-counts n s (omega arith))
      (ap (λ (c : CacheSet). cond (members c s) 1 0) (at-level V n h) ∙ ap (λ (b : Bool). cond b 1 0) (members-set (above n V) s))
      ∙ at (ltb n (V s)) refl (ltb s 256) refl
    where
      at : (t : Bool) → ltb n (V s) ≡ t → (u : Bool) → ltb s 256 ≡ u → min n (V s) + cond (u && t) 1 0 ≡ min (suc n) (V s)
      at true e true f = omega (arith, ltb-true n (V s) e)
      at false e true f = omega (arith, ltb-false n (V s) e)
      at t e false f =
          let z : V s ≡ 0 = none s (omega (arith, ltb-false s 256 f)) in
          omega arith

  pub counts-back : counts ways (leveled V) ≡ V
  counts-back = fun_ext (λ s. level-counts ways s most ∙ omega (arith, small s))

-- ---- a field

within-of : (ways : ℕ) (f : List ℕ) (W : Counts) → ((s : ℕ) → W s ≤ ways) → list_all (λ b. leb (b - 48) ways) f ≡ true → (s : ℕ) → read_counts W f s ≤ ways
unfolding read_counts push
within-of ways [] W h e s = h s
within-of ways (b ∷ f) W h e s =
    let p = (and-eq-true_iff (leb (b - 48) ways) (list_all (λ b. leb (b - 48) ways) f)).0 e in
    within-of ways f _ (next (leb-true (b - 48) ways p.0)) p.1 s
  where
    next : b - 48 ≤ ways → (s : ℕ) → push (b - 48) W s ≤ ways
    next l zero = l
    next l (suc s) = h s

zero-start : (ways s : ℕ) → nothing s ≤ ways
unfolding nothing
zero-start ways s = zero-le

-- the old form: the first level is the set, and the others are empty
blank-fits : (sets : ℕ) → sets ≤ 256 → marks_fit sets blank ≡ true
unfolding words_of
blank-fits sets few = number-fits sets 0 few (pow_pos sets)

marked-fits : (sets : ℕ) (c : CacheSet) → sets ≤ 256 → marks_fit sets c ≡ true → useful_fits Hex sets (marked c) ≡ true
unfolding useful_fits level_fits
marked-fits sets c few e = rw (e, blank-fits sets few) refl

hex-says : (sets : ℕ) (f : List ℕ) (u : Useful) (o : Option CacheSet) → option_map marked o ≡ Some u
    → ((c : CacheSet) → o ≡ Some c → (useful_fits Hex sets (marked c) ≡ true) × (f ≡ marks_text sets c))
    → (useful_fits Hex sets u ≡ true) × (f ≡ marks_text sets (set_at u.levels 0))
hex-says sets f u (Some c) e p = let same : marked c ≡ u = cc in rw (← same) (p c refl)
hex-says sets f u None e p = let z : ◌≡◌ {A = ℕ} 0 1 = cc in absurd (omega arith)

module _ (sets : ℕ) (few : sets ≤ 256) (by-four : sets % 4 ≡ 0) where
  -- what a field that is read says, and the field
  pub useful-says : (form : Form) (f : List ℕ) (u : Useful) → ways_of form ≤ 8 → read_useful form sets f ≡ Some u → within_ways form f ≡ true
      → (useful_fits form sets u ≡ true) × (f ≡ useful_text form sets u)
  unfolding read_useful within_ways useful_text
  useful-says Hex f u w e h =
      hex-says sets f u (read_set sets f) e
      (λ c p. (marked-fits sets c few (read_fits sets few by-four f c p), read-text sets few by-four f c p))
  useful-says (Digits ways) f u w e h = go (leb sets 256 && eqb (length f) sets && list_all is_ascii_digit f) refl e
    where
      go : (t : Bool) → (leb sets 256 && eqb (length f) sets && list_all is_ascii_digit f) ≡ t → cond t (Some (leveled (capped ways (counts_of f)))) None ≡ Some u
          → (useful_fits (Digits ways) sets u ≡ true) × (f ≡ count_digits sets (counts ways u))
      go false t e = let z : ◌≡◌ {A = ℕ} 0 1 = cc in absurd (omega arith)
      go true t e =
          let q = (and-eq-true_iff _ (list_all is_ascii_digit f)).0 t in
          let long : length f ≡ sets = eqb-true _ _ ((and-eq-true_iff (leb sets 256) (eqb (length f) sets)).0 q.0).1 in
          let small = within-of ways f nothing (λ s. zero-start ways s) h in
          let none = λ (s : ℕ) (l : sets ≤ s). past f s (omega (arith, long)) in
          let same : leveled (counts_of f) ≡ u = ap leveled (sym (capped-within ways (counts_of f) small)) ∙ cc in
          let back = counts-back ways sets few w (counts_of f) small none in (
            rw (← same) (leveled-fits ways sets few w (counts_of f) small none),
            rw (← same, back) (sym (ap (λ (n : ℕ). count_digits n (counts_of f)) (sym long) ∙ read-written f nothing q.1)),
          )
