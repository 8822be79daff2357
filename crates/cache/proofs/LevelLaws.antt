-- Laws of levels: what they count, and what one level more in each cache set of a set does.
use Rattle.std.proofs.Common.{◌≡◌, refl, sym, ap, ap₂, ◌∙◌, Bool, true, false, cond, ◌&&◌, ◌||◌, List, map, ℕ, zero, suc, ◌+◌, ◌*◌, ◌≤◌, ◌<◌, min, zero-le, le_refl, add-one, arith, lit<, length, set, replicate, get_or-set_same, get_or-set_other}
use mir.Val.{bool_byte}
use Rattle.std.proofs.Math.Decide.{dec_lt}
use Rattle.std.proofs.Math.Path.{fun_ext}
use Rattle.std.proofs.lemmas.List.{length-map}
use Rattle.cache.specs.declared.sets.CacheSet.{CacheSet}
use Rattle.cache.specs.Sets.{Set, ∅, ◌∪◌, ◌∩◌, size}
use Rattle.cache.specs.Words.{members}
use Rattle.cache.proofs.WordLaws.{members-empty}
use Rattle.cache.specs.Counts.{Counts, nothing, of_set, ◌⊕◌, capped, ◌on◌, total}
use Rattle.cache.specs.declared.useful.Useful.{Useful}
use Rattle.cache.specs.Levels.{level, heights, counts, Puts}
use Rattle.cache.proofs.CountLaws.{total-add, total-nothing, on-add, on-nothing, on-set, one-way-size, total-most, capped-within, capped_left, add_comm, add_assoc, nothing-add}

abbrev Sets : Type 0
Sets = List CacheSet

abbrev blank : CacheSet
blank = record { w0 = 0; w1 = 0; w2 = 0; w3 = 0 }

-- the list of an array of structs is as long as the array
pub length-mapped : {X Y : Type 0} (f : X → Y) (l : List X) (n : ℕ) → length (map f l) ≡ n → length l ≡ n
length-mapped f l n e = sym (length-map l f) ∙ e

abbrev one : Bool → ℕ
one b = cond b 1 0

-- ---- one level more

pub level-more : (n : ℕ) (sets : Sets) → heights (n + 1) sets ≡ heights n sets ⊕ of_set (level sets n)
unfolding heights
level-more n sets = rw add-one refl

pub total-none : (sets : Sets) → total (heights 0 sets) ≡ 0
unfolding heights
total-none sets = total-nothing

pub total-more : (n : ℕ) (sets : Sets) → total (heights (n + 1) sets) ≡ total (heights n sets) + size (level sets n)
total-more n sets =
    ap total (level-more n sets) ∙ total-add (heights n sets) (of_set (level sets n))
    ∙ ap (λ (x : ℕ). total (heights n sets) + x) (one-way-size (level sets n))

pub total-on-none : (sets : Sets) (E : Set) → total (heights 0 sets on E) ≡ 0
unfolding heights
total-on-none sets E = ap total (on-nothing E) ∙ total-nothing

pub total-on-more : (n : ℕ) (sets : Sets) (E : Set) → total (heights (n + 1) sets on E) ≡ total (heights n sets on E) + size (level sets n ∩ E)
total-on-more n sets E =
    ap (λ (U : Counts). total (U on E)) (level-more n sets)
    ∙ ap total (on-add (heights n sets) (of_set (level sets n)) E ∙ ap (λ (U : Counts). heights n sets on E ⊕ U) (on-set (level sets n) E))
    ∙ total-add (heights n sets on E) (of_set (level sets n ∩ E))
    ∙ ap (λ (x : ℕ). total (heights n sets on E) + x) (one-way-size (level sets n ∩ E))

next-height : (n : ℕ) (sets : Sets) (s : ℕ) → heights (suc n) sets s ≡ heights n sets s + one (level sets n s)
unfolding heights ◌⊕◌ of_set
next-height n sets s = refl

-- ---- the count of one cache set

-- a test as the code has it in a number
bit-one : (t : Bool) → bool_byte t ≡ one t
bit-one true = refl
bit-one false = refl

pub bit-lt : (t : Bool) → bool_byte t < 2
bit-lt true = lit< tt
bit-lt false = lit< tt

pub height-none : (sets : Sets) (s : ℕ) → heights 0 sets s ≡ 0
unfolding heights nothing
height-none sets s = refl

pub height-more : (n : ℕ) (sets : Sets) (s : ℕ) {t : Bool} → t ≡ level sets n s → heights (n + 1) sets s ≡ heights n sets s + bool_byte t
unfolding ◌⊕◌ of_set
height-more n sets s {t} e = ap (λ (U : Counts). U s) (level-more n sets) ∙ ap (λ (x : ℕ). heights n sets s + x) (sym (bit-one t ∙ ap one e))

-- ---- bounds

one-le : (b : Bool) → one b ≤ 1
one-le true = le_refl 1
one-le false = zero-le

-- no count is above the number of levels
pub heights-le : (n : ℕ) (sets : Sets) (s : ℕ) → heights n sets s ≤ n
unfolding heights nothing of_set ◌⊕◌
heights-le zero sets s = zero-le
heights-le (suc n) sets s = omega (arith, heights-le n sets s, one-le (level sets n s))

pub total-le : (n : ℕ) (sets : Sets) → total (heights n sets) ≤ 256 * n
total-le n sets = total-most n (heights n sets) (heights-le n sets)

-- ---- a store at a level

heights-set : (n w : ℕ) (sets : Sets) (c : CacheSet) → n ≤ w → heights n (set sets w c) ≡ heights n sets
unfolding heights
heights-set zero w sets c h = refl
heights-set (suc n) w sets c h =
    ap₂ (λ (U W : Counts). U ⊕ W) (heights-set n w sets c (omega arith))
    (ap (λ (x : CacheSet). of_set (members x)) (get_or-set_other sets w n c _ (λ e. omega arith)))

-- what the level had is counted no more, and what is stored is
heights-put : (n w : ℕ) (sets : Sets) (c : CacheSet) (s : ℕ) → w < n → w < length sets
    → heights n (set sets w c) s + one (level sets w s) ≡ heights n sets s + one (members c s)
heights-put zero w sets c s h m = absurd (omega arith)
heights-put (suc n) w sets c s h m = omega (arith, next-height n (set sets w c) s, next-height n sets s, at (λ l. heights-put n w sets c s l m))
  where
    at : (w < n → heights n (set sets w c) s + one (level sets w s) ≡ heights n sets s + one (members c s))
        → heights n (set sets w c) s + one (level (set sets w c) n s) + one (level sets w s) ≡ heights n sets s + one (level sets n s) + one (members c s)
    at lower = elim (dec_lt w n) [
      | yes l ↦ omega (arith, lower l, ap (λ (x : CacheSet). one (members x s)) (get_or-set_other sets w n c blank (λ e. omega arith)))
      | no l ↦
          let e : n ≡ w = omega arith in
          omega (
            arith,
            ap (λ (U : Counts). U s) (heights-set n w sets c (omega arith)),
            ap (λ (k : ℕ). one (level (set sets w c) k s)) e ∙ ap (λ (x : CacheSet). one (members x s)) (get_or-set_same sets w c blank m),
            ap (λ (k : ℕ). one (level sets k s)) e,
          )
    ]

-- ---- one more in each cache set of A

pub put-none : (from : ℕ) (u : Useful) (A : Set) → Puts from from u A u A
put-none from u A = record { counted = λ n h. refl; kept = λ l h. refl; left = λ s h. h; full = λ l s h m e. absurd (omega arith) }

or-and : (x c : Bool) → one (x || c) + one (x && c) ≡ one x + one c
or-and true true = refl
or-and true false = refl
or-and false true = refl
or-and false false = refl

both : (x c : Bool) → (x && c) ≡ true → ((x || c) ≡ true) × (c ≡ true)
both true true h = (refl, refl)
both true false h = (refl, h)
both false c h = let z : ◌≡◌ {A = ℕ} 0 1 = cc in absurd (omega arith)

module _ {from n : ℕ} {old new : Useful} {A C : Set} (p : Puts from n old A new C) where
  pub put-more : (u : CacheSet) (next : Useful) (D : Set) → n < length new.levels → next.levels ≡ set new.levels n u
      → members u ≡ level new.levels n ∪ C → D ≡ level new.levels n ∩ C → Puts from (n + 1) old A next D
  unfolding ◌∪◌ ◌∩◌ of_set ◌⊕◌
  put-more u next D h e q r = record {
    counted = λ ways m. fun_ext (λ s. omega (arith, ap (λ (ls : Sets). heights ways ls s) e, heights-put ways n new.levels u s (omega arith) h, at s, ap (λ (U : Counts). U s) (p.counted ways (omega arith)), or-and (level new.levels n s) (C s), ap (λ (X : Set). one (X s)) r));
    kept = λ l m. ap (λ (ls : Sets). level ls l) e ∙ ap members (get_or-set_other new.levels n l u _ (λ e. omega arith)) ∙ p.kept l (omega arith);
    left = λ s d. p.left s (has s d).1;
    full = λ l s a b d. elim (dec_lt l n) [ yes m ↦ ap (λ (ls : Sets). level ls l s) e ∙ ap (λ (x : CacheSet). members x s) (get_or-set_other new.levels n l u _ (λ e. omega arith)) ∙ p.full l s a m (has s d).1 | no m ↦ here l s (omega arith) d ];
  }
    where
      at : (s : ℕ) → one (members u s) ≡ one (level new.levels n s || C s)
      at s = ap (λ (X : Set). one (X s)) q

      has : (s : ℕ) → D s ≡ true → ((level new.levels n s || C s) ≡ true) × (C s ≡ true)
      has s d = both (level new.levels n s) (C s) (sym (ap (λ (X : Set). X s) r) ∙ d)

      here : (l s : ℕ) → l ≡ n → D s ≡ true → level next.levels l s ≡ true
      here l s f d =
          ap₂ (λ (ls : Sets) (k : ℕ). level ls k s) e f ∙ ap (λ (x : CacheSet). members x s) (get_or-set_same new.levels n u _ h) ∙ ap (λ (X : Set). X s) q
          ∙ (has s d).0

-- a cache set that each level has is counted at each
heights-full : (n : ℕ) (sets : Sets) (s : ℕ) → ((l : ℕ) → l < n → level sets l s ≡ true) → heights n sets s ≡ n
heights-full zero sets s h = height-none sets s
heights-full (suc n) sets s h = omega (arith, next-height n sets s, heights-full n sets s (λ l m. h l (omega arith)), ap one (h n (omega arith)))

-- from one level on and then below it: what finds no place is where all are full
pub put-twice : {k n : ℕ} {old mid new : Useful} {A C D : Set} → Puts k n old A mid C → Puts 0 k mid C new D → k ≤ n → counts n new ≡ capped n (counts n old ⊕ of_set A)
unfolding capped of_set ◌⊕◌
put-twice {k} {n} {old} {mid} {new} {A} {C} {D} p q h = fun_ext (λ s. at (D s) (full s) (ap (λ (U : Counts). U s) (q.counted n h) ∙ ap (λ (U : Counts). U s) (p.counted n (le_refl n))) (heights-le n new.levels s))
  where
    full : (s : ℕ) → D s ≡ true → heights n new.levels s ≡ n
    full s d = heights-full n new.levels s (λ l m. elim (dec_lt l k) [ yes a ↦ q.full l s zero-le a d | no a ↦ ap (λ (X : Set). X s) (q.kept l (omega arith)) ∙ p.full l s (omega arith) m (q.left s d) ])

    at : {x y : ℕ} (d : Bool) → (d ≡ true → x ≡ n) → x + one d ≡ y → x ≤ n → x ≡ min n y
    at true f e l = omega (arith, f refl)
    at false f e l = omega arith

-- ---- the levels of others, one after the other

pub join-none : (n : ℕ) (sets others : Sets) → heights n sets ≡ capped n (heights n sets ⊕ heights 0 others)
unfolding heights
join-none n sets others =
    sym (ap (capped n) (add_comm (heights n sets) nothing ∙ nothing-add (heights n sets)) ∙ capped-within n (heights n sets) (heights-le n sets))

pub join_more : (n w : ℕ) (U : Counts) (others : Sets) {X Y : Counts} → X ≡ capped n (U ⊕ heights w others) → Y ≡ capped n (X ⊕ of_set (level others w))
    → Y ≡ capped n (U ⊕ heights (w + 1) others)
join_more n w U others p q =
    q ∙ ap (λ (W : Counts). capped n (W ⊕ of_set (level others w))) p
    ∙ capped_left n (U ⊕ heights w others) (of_set (level others w))
    ∙ ap (capped n) (add_assoc U (heights w others) (of_set (level others w)) ∙ ap (λ (W : Counts). U ⊕ W) (sym (level-more w others)))

-- ---- nothing, and a set alone

level-blank : (m k : ℕ) → level (replicate m blank) k ≡ ∅
level-blank zero k = members-empty
level-blank (suc m) zero = members-empty
level-blank (suc m) (suc k) = level-blank m k

add-empty : (U : Counts) → U ⊕ of_set ∅ ≡ U
unfolding ∅ of_set ◌⊕◌
add-empty U = fun_ext (λ s. omega arith)

pub heights-none : (n m : ℕ) → heights n (replicate m blank) ≡ nothing
unfolding heights
heights-none zero m = refl
heights-none (suc n) m = ap₂ (λ (U W : Counts). U ⊕ W) (heights-none n m) (ap of_set (level-blank m n)) ∙ add-empty nothing

-- with 1 way the first level is all
pub one-level : (sets : Sets) → heights 1 sets ≡ of_set (level sets 0)
unfolding heights
one-level sets = nothing-add (of_set (level sets 0))

-- ---- evicting sets that have all of the levels

pub covered-none : (sets : Sets) (E : Set) → (heights 0 sets on E) ≡ heights 0 sets
unfolding heights
covered-none sets E = on-nothing E

pub covered-more : (n : ℕ) (sets : Sets) (E : Set) → (heights n sets on E) ≡ heights n sets → (level sets n ∩ E) ≡ level sets n
    → (heights (n + 1) sets on E) ≡ heights (n + 1) sets
covered-more n sets E p q =
    ap (λ (U : Counts). U on E) (level-more n sets)
    ∙ on-add (heights n sets) (of_set (level sets n)) E
    ∙ ap₂ (λ (U W : Counts). U ⊕ W) p (on-set (level sets n) E ∙ ap of_set q)
    ∙ sym (level-more n sets)
