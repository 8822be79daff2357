-- What is known of a field that says useful blocks.
use Rattle.std.proofs.Common.{◌≡◌, refl, sym, ap, ◌∙◌, Bool, true, false, ◌&&◌, cond, List, [], ◌∷◌, ℕ, zero, suc, ◌+◌, ◌-◌, ◌*◌, ◌%◌, ◌^◌, ◌≤◌, ◌<◌, zero-le, max, arith, length, replicate, pow-suc, leb, ltb, eqb, eqb-true, ltb-true, lt-ltb, le-ltb}
use Rattle.std.proofs.Math.Decide.{dec_lt}
use Rattle.std.proofs.Math.Nat.{zero-div}
use Rattle.std.proofs.lemmas.Bool.{false≢true, eqb-false}
use Rattle.std.proofs.lemmas.Nat.{or_shifted}
use Rattle.std.proofs.lemmas.Nat.Bits.{bit_at_or, bit_at-pow_same, bit_at-pow_other, bit_at-lt}
use Rattle.std.specs.Int.{bit_at}
use Rattle.std.specs.Prelude.{Option, Some, None, option_map}
use Rattle.std.specs.List.{list_all}
use Rattle.cache.specs.declared.sets.CacheSet.{CacheSet}
use Rattle.cache.specs.declared.useful.Form.{Form}
use Rattle.cache.specs.declared.useful.Form.TheVariants.{Hex, Digits}
use Rattle.cache.specs.declared.useful.Useful.{Useful}
use Rattle.cache.specs.Sets.{Set, ∅}
use Rattle.cache.specs.Words.{bits_of, members}
use Rattle.cache.specs.Field.{read_set}
use Rattle.cache.specs.Counts.{Counts, nothing, capped}
use Rattle.cache.specs.Levels.{level, above, number_below, set_of, leveled, marked}
use Rattle.std.specs.Char.{is_ascii_digit}
use Rattle.cache.specs.UsefulField.{push, read_counts, counts_of, read_useful}
use Rattle.cache.proofs.SetLaws.{and_left, and_right}
use Rattle.cache.proofs.WordLaws.{members-empty, members-words}
use Rattle.cache.proofs.FieldLaws.{read_below}

-- ---- the digit of a cache set that has no digit is 0

pub read_past : (U : Counts) (f : List ℕ) (s : ℕ) → read_counts U f (length f + s) ≡ U s
unfolding read_counts push
read_past U [] s = ap U (omega arith)
read_past U (b ∷ f) s =
    let e : suc (length f) + s ≡ length f + suc s = omega arith in
    ap (read_counts (push (b - 48) U) f) e ∙ read_past (push (b - 48) U) f (suc s)

pub past : (f : List ℕ) (s : ℕ) → length f ≤ s → counts_of f s ≡ 0
unfolding nothing
past f s h =
    let e : s ≡ length f + (s - length f) = omega arith in
    ap (counts_of f) e ∙ read_past nothing f (s - length f)

-- ---- the members of a set that is made of them

-- the number of the bits below k is below 2 ^ k
number-lt : (k : ℕ) (A : Set) → number_below k A < 2 ^ k
unfolding number_below
number-lt zero A = omega arith
number-lt (suc k) A = at (A k) (number-lt k A)
  where
    p : 2 ^ suc k ≡ 2 * 2 ^ k
    p = rw pow-suc (omega arith)

    at : (b : Bool) → number_below k A < 2 ^ k → number_below k A + cond b (2 ^ k) 0 < 2 ^ suc k
    at true h = omega (arith, p)
    at false h = omega (arith, p)

-- one bit more at k: a number below 2 ^ k has its own bits, and the bit at k
bit-more : (n k s : ℕ) → n < 2 ^ k → bit_at (n + 2 ^ k) s ≡ max (bit_at (2 ^ k) s) (bit_at n s)
bit-more n k s h =
    let e : n + 2 ^ k ≡ 1 * 2 ^ k + n = omega arith in
    let one : 1 * 2 ^ k ≡ 2 ^ k = omega arith in
    ap (λ (x : ℕ). bit_at x s) (e ∙ sym (or_shifted 1 k n h)) ∙ bit_at_or (1 * 2 ^ k) n s ∙ ap (λ (x : ℕ). max (bit_at x s) (bit_at n s)) one

lt-other : (s k : ℕ) → (s ≡ k → ⊥) → ltb s k ≡ ltb s (suc k)
lt-other s k h = elim (dec_lt s k) [
  | yes l ↦ lt-ltb s k l ∙ sym (lt-ltb s (suc k) (omega arith))
  | no l ↦ le-ltb s k (omega arith) ∙ sym (le-ltb s (suc k) (omega arith))
]

none : (a b : Bool) → (a && false) ≡ (b && false)
none true true = refl
none true false = refl
none false true = refl
none false false = refl

pub bits-number : (k : ℕ) (A : Set) (s : ℕ) → bits_of (number_below k A) s ≡ (ltb s k && A s)
unfolding number_below
bits-number zero A s = rw (le-ltb s 0 zero-le) (ap (λ (x : ℕ). eqb (x % 2) 1) (zero-div (2 ^ s)))
bits-number (suc k) A s = at (bits-number k A s) (A k) refl (eqb s k) refl
  where
    n : ℕ
    n = number_below k A

    at : bits_of n s ≡ (ltb s k && A s) → (b : Bool) → A k ≡ b → (t : Bool) → eqb s k ≡ t → bits_of (n + cond b (2 ^ k) 0) s ≡ (ltb s (suc k) && A s)
    at ih true e true t =
        let same : s ≡ k = eqb-true s k t in
        rw (same, lt-ltb k (suc k) (omega arith), e, bit-more n k k (number-lt k A), bit_at-pow_same k)
        (let l = bit_at-lt n k in let one : max 1 (bit_at n k) ≡ 1 = omega arith in rw one refl)
    at ih true e false t =
        let other : s ≡ k → ⊥ = eqb-false s k t in
        rw (← lt-other s k other, bit-more n k s (number-lt k A), bit_at-pow_other k s other)
        (ap (λ (x : ℕ). eqb x 1) (omega arith) ∙ ih)
    at ih false e true t =
        let same : s ≡ k = eqb-true s k t in
        ap (λ (x : ℕ). bits_of x s) (omega arith) ∙ ih ∙ rw (same, e) (none (ltb k k) (ltb k (suc k)))
    at ih false e false t =
        let other : s ≡ k → ⊥ = eqb-false s k t in
        ap (λ (x : ℕ). bits_of x s) (omega arith) ∙ ih ∙ ap (λ (b : Bool). b && A s) (lt-other s k other)

pub members-set : (A : Set) (s : ℕ) → members (set_of A) s ≡ (ltb s 256 && A s)
members-set A s = ap (λ (B : Set). B s) (members-words (number_below 256 A)) ∙ bits-number 256 A s

-- ---- every useful block is in one of the table's cache sets

-- the sets on each level of a list
record Below (sets : ℕ) (levels : List CacheSet) : Type 0 where
  each : (l s : ℕ) → level levels l s ≡ true → s < sets

none-set : (s : ℕ) → ∅ s ≡ true → ⊥
unfolding ∅
none-set s e = false≢true e

below-none : (sets : ℕ) → Below sets []
below-none sets = record { each = λ l s e. absurd (none-set s (ap (λ (A : Set). A s) (sym members-empty) ∙ e)) }

below-more : (sets : ℕ) (c : CacheSet) (levels : List CacheSet) → ((s : ℕ) → members c s ≡ true → s < sets) → Below sets levels → Below sets (c ∷ levels)
below-more sets c levels h p = record { each = go }
  where
    go : (l s : ℕ) → level (c ∷ levels) l s ≡ true → s < sets
    go zero s e = h s e
    go (suc l) s e = p.each l s e

below-empty : (sets n : ℕ) → Below sets (replicate n (record { w0 = 0; w1 = 0; w2 = 0; w3 = 0 }))
below-empty sets zero = below-none sets
below-empty sets (suc n) = below-more sets _ _ (λ s e. absurd (none-set s (ap (λ (A : Set). A s) (sym members-empty) ∙ e))) (below-empty sets n)

marked-below : (sets : ℕ) (c : CacheSet) → ((s : ℕ) → members c s ≡ true → s < sets) → Below sets (marked c).levels
marked-below sets c h = below-more sets c (replicate 7 (record { w0 = 0; w1 = 0; w2 = 0; w3 = 0 })) h (below-empty sets 7)

-- counts of which none is at `sets` or above
leveled-below : (sets : ℕ) (U : Counts) → ((s : ℕ) → sets ≤ s → U s ≡ 0) → Below sets (leveled U).levels
unfolding above
leveled-below sets U none =
    more 0 (more 1 (more 2 (more 3 (more 4 (more 5 (more 6 (more 7 (below-none sets))))))))
  where
    at : (k s : ℕ) → members (set_of (above k U)) s ≡ true → s < sets
    at k s e =
        let counted : k < U s = ltb-true k (U s) (and_right (ltb s 256) (ltb k (U s)) (sym (members-set (above k U) s) ∙ e)) in
        elim (dec_lt s sets) [ yes l ↦ l | no l ↦ absurd (omega (arith, none s (omega arith))) ]

    more : (k : ℕ) {levels : List CacheSet} → Below sets levels → Below sets (set_of (above k U) ∷ levels)
    more k p = below-more sets _ _ (at k) p

capped-none : (ways : ℕ) (U : Counts) (s : ℕ) → U s ≡ 0 → capped ways U s ≡ 0
unfolding capped
capped-none ways U s h = omega arith

hex-below : (sets : ℕ) (o : Option CacheSet) (u : Useful) → option_map marked o ≡ Some u → ((c : CacheSet) → o ≡ Some c → (s : ℕ) → members c s ≡ true → s < sets)
    → Below sets u.levels
hex-below sets (Some c) u e h = let same : marked c ≡ u = cc in rw (← same) (marked-below sets c (h c refl))
hex-below sets None u e h = let z : ◌≡◌ {A = ℕ} 0 1 = cc in absurd (omega arith)

pub useful-below : (form : Form) (sets : ℕ) (f : List ℕ) (u : Useful) → sets % 4 ≡ 0 → read_useful form sets f ≡ Some u → (l s : ℕ) → level u.levels l s ≡ true → s < sets
unfolding read_useful
useful-below Hex sets f u by-four e = (hex-below sets (read_set sets f) u e (λ c p. read_below sets f c by-four p)).each
useful-below (Digits ways) sets f u by-four e = (go (leb sets 256 && eqb (length f) sets && list_all is_ascii_digit f) refl e).each
  where
    go : (t : Bool) → (leb sets 256 && eqb (length f) sets && list_all is_ascii_digit f) ≡ t → cond t (Some (leveled (capped ways (counts_of f)))) None ≡ Some u → Below sets u.levels
    go false t e = let z : ◌≡◌ {A = ℕ} 0 1 = cc in absurd (omega arith)
    go true t e =
        let same : leveled (capped ways (counts_of f)) ≡ u = cc in
        let long : length f ≡ sets = eqb-true _ _ (and_right (leb sets 256) _ (and_left (leb sets 256 && eqb (length f) sets) _ t)) in
        rw (← same) (leveled-below sets (capped ways (counts_of f)) (λ s h. capped-none ways (counts_of f) s (past f s (omega (arith, long)))))
