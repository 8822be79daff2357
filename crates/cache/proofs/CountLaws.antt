-- Laws of counts and of their totals, over any number of ways; and what they are where there is 1 way.
use Rattle.std.proofs.Common.{◌≡◌, refl, sym, ap, ◌∙◌, Bool, true, false, cond, ◌&&◌, ◌||◌, ℕ, zero, suc, ◌+◌, ◌*◌, ◌≤◌, min, zero-le, le_refl, add-le-add, arith}
use Rattle.std.proofs.Math.Path.{fun_ext}
use Rattle.cache.specs.Sets.{Set, ◌∪◌, ◌∩◌, ◌⊆◌, size_below, size}
use Rattle.cache.specs.Counts.{Counts, nothing, of_set, ◌⊕◌, capped, ◌on◌, ◌≼◌, total_below, total}

-- a test as a number
abbrev one : Bool → ℕ
one b = cond b 1 0

-- ---- totals: a law that holds at each cache set holds of the totals

total-below-add : (n : ℕ) (U W : Counts) → total_below n (U ⊕ W) ≡ total_below n U + total_below n W
unfolding total_below ◌⊕◌
total-below-add zero U W = refl
total-below-add (suc n) U W = omega (arith, total-below-add n U W)

total-below-mono : (n : ℕ) (U W : Counts) → U ≼ W → total_below n U ≤ total_below n W
unfolding total_below
total-below-mono zero U W h = zero-le
total-below-mono (suc n) U W h = add-le-add (total-below-mono n U W h) (h n)

total-below-nothing : (n : ℕ) → total_below n nothing ≡ 0
unfolding total_below nothing
total-below-nothing zero = refl
total-below-nothing (suc n) = omega (arith, total-below-nothing n)

total-below-set : (n : ℕ) (A : Set) → total_below n (of_set A) ≡ size_below n A
unfolding total_below of_set size_below
total-below-set zero A = refl
total-below-set (suc n) A = ap (λ (x : ℕ). x + one (A n)) (total-below-set n A)

pub total-add : (U W : Counts) → total (U ⊕ W) ≡ total U + total W
unfolding total
total-add = total-below-add 256

pub total_mono : (U W : Counts) → U ≼ W → total U ≤ total W
unfolding total
total_mono = total-below-mono 256

pub total-nothing : total nothing ≡ 0
unfolding total
total-nothing = total-below-nothing 256

-- ---- counts in an evicting set

on-add-at : (e : Bool) (u w : ℕ) → cond e (u + w) 0 ≡ cond e u 0 + cond e w 0
on-add-at true u w = refl
on-add-at false u w = refl

pub on-add : (U W : Counts) (E : Set) → (U ⊕ W) on E ≡ U on E ⊕ W on E
unfolding ◌⊕◌ ◌on◌
on-add U W E = fun_ext (λ s. on-add-at (E s) (U s) (W s))

on-nothing-at : (e : Bool) → ◌≡◌ {A = ℕ} (cond e 0 0) 0
on-nothing-at true = refl
on-nothing-at false = refl

pub on-nothing : (E : Set) → nothing on E ≡ nothing
unfolding nothing ◌on◌
on-nothing E = fun_ext (λ s. on-nothing-at (E s))

on-both-at : (a b : Bool) (u : ℕ) → cond b (cond a u 0) 0 ≡ cond (a && b) u 0
on-both-at true b u = refl
on-both-at false true u = refl
on-both-at false false u = refl

pub on_both : (U : Counts) (A B : Set) → U on A on B ≡ U on (A ∩ B)
unfolding ◌on◌ ◌∩◌
on_both U A B = fun_ext (λ s. on-both-at (A s) (B s) (U s))

on-split-at : (a b : Bool) (u : ℕ) → cond (a || b) u 0 + cond (a && b) u 0 ≡ cond a u 0 + cond b u 0
on-split-at true true u = refl
on-split-at true false u = refl
on-split-at false true u = omega arith
on-split-at false false u = refl

on-split : (U : Counts) (A B : Set) → U on (A ∪ B) ⊕ U on (A ∩ B) ≡ U on A ⊕ U on B
unfolding ◌⊕◌ ◌on◌ ◌∪◌ ◌∩◌
on-split U A B = fun_ext (λ s. on-split-at (A s) (B s) (U s))

-- the size law of sets, for counts
pub total-split : (U : Counts) (A B : Set) → total (U on (A ∪ B)) + total (U on A on B) ≡ total (U on A) + total (U on B)
total-split U A B =
    ap (λ (W : Counts). total (U on (A ∪ B)) + total W) (on_both U A B)
    ∙ sym (total-add (U on (A ∪ B)) (U on (A ∩ B))) ∙ ap total (on-split U A B) ∙ total-add (U on A) (U on B)

on-mono-at : (a b : Bool) (u w : ℕ) → (a ≡ true → b ≡ true) → u ≤ w → cond a u 0 ≤ cond b w 0
on-mono-at true true u w h l = l
on-mono-at true false u w h l = let z : ◌≡◌ {A = ℕ} 0 1 = cc (h refl) in omega arith
on-mono-at false b u w h l = zero-le

-- larger counts, larger evicting sets: no smaller
pub on-mono : (U W : Counts) (A B : Set) → U ≼ W → A ⊆ B → U on A ≼ W on B
unfolding ◌on◌
on-mono U W A B h l s = on-mono-at (A s) (B s) (U s) (W s) (l s) (h s)

on-le-at : (a : Bool) (u : ℕ) → cond a u 0 ≤ u
on-le-at true u = le_refl u
on-le-at false u = zero-le

pub total-on-le : (U : Counts) (E : Set) → total (U on E) ≤ total U
unfolding ◌on◌
total-on-le U E = total_mono (U on E) U (λ s. on-le-at (E s) (U s))

-- ---- the cap

pub capped_le : (n : ℕ) (U : Counts) (s : ℕ) → capped n U s ≤ n
unfolding capped
capped_le n U s = omega arith

pub capped-mono : (n : ℕ) (U W : Counts) → U ≼ W → capped n U ≼ capped n W
unfolding capped
capped-mono n U W h s = omega (arith, h s)

pub add-mono : (U U' W W' : Counts) → U ≼ U' → W ≼ W' → U ⊕ W ≼ U' ⊕ W'
unfolding ◌⊕◌
add-mono U U' W W' h l s = omega (arith, h s, l s)

-- what is within the cap stays
pub capped-within : (n : ℕ) (U : Counts) → ((s : ℕ) → U s ≤ n) → capped n U ≡ U
unfolding capped
capped-within n U h = fun_ext (λ s. omega (arith, h s))

-- capping on the way changes nothing: a sum may be capped at each step
pub capped_left : (n : ℕ) (U W : Counts) → capped n (capped n U ⊕ W) ≡ capped n (U ⊕ W)
unfolding capped ◌⊕◌
capped_left n U W = fun_ext (λ s. omega arith)

pub add_comm : (U W : Counts) → U ⊕ W ≡ W ⊕ U
unfolding ◌⊕◌
add_comm U W = fun_ext (λ s. omega arith)

pub add_assoc : (U W X : Counts) → U ⊕ W ⊕ X ≡ U ⊕ (W ⊕ X)
unfolding ◌⊕◌
add_assoc U W X = fun_ext (λ s. omega arith)

pub nothing-add : (U : Counts) → nothing ⊕ U ≡ U
unfolding nothing ◌⊕◌
nothing-add U = fun_ext (λ s. omega arith)

-- a capped sum as an operation: the order and the grouping do not matter
pub join-comm : (n : ℕ) (U W : Counts) → capped n (U ⊕ W) ≡ capped n (W ⊕ U)
join-comm n U W = ap (capped n) (add_comm U W)

pub join-assoc : (n : ℕ) (U W X : Counts) → capped n (capped n (U ⊕ W) ⊕ X) ≡ capped n (U ⊕ capped n (W ⊕ X))
join-assoc n U W X =
    capped_left n (U ⊕ W) X ∙ ap (capped n) (add_assoc U W X ∙ add_comm U (W ⊕ X)) ∙ sym (capped_left n (W ⊕ X) U) ∙ join-comm n (capped n (W ⊕ X)) U

-- ---- method 3 is at most method 1

total-below-bounded : (k ways : ℕ) (U : Counts) (E : Set) → ((s : ℕ) → U s ≤ ways) → total_below k (U on E) ≤ size_below k E * ways
unfolding total_below ◌on◌ size_below
total-below-bounded zero ways U E h = zero-le
total-below-bounded (suc k) ways U E h = at (E k) (total-below-bounded k ways U E h)
  where
    at : (e : Bool) → total_below k (U on E) ≤ size_below k E * ways → total_below k (U on E) + cond e (U k) 0 ≤ (size_below k E + one e) * ways
    at true i = omega (arith, h k)
    at false i = omega arith

pub total-bounded : (ways : ℕ) (U : Counts) (E : Set) → ((s : ℕ) → U s ≤ ways) → total (U on E) ≤ size E * ways
unfolding total size
total-bounded = total-below-bounded 256

total-below-most : (k ways : ℕ) (U : Counts) → ((s : ℕ) → U s ≤ ways) → total_below k U ≤ k * ways
unfolding total_below
total-below-most zero ways U h = zero-le
total-below-most (suc k) ways U h = omega (arith, total-below-most k ways U h, h k)

pub total-most : (ways : ℕ) (U : Counts) → ((s : ℕ) → U s ≤ ways) → total U ≤ 256 * ways
unfolding total
total-most = total-below-most 256

-- ---- 1 way gives the old figures

pub one-way-size : (A : Set) → total (of_set A) ≡ size A
unfolding total size
one-way-size = total-below-set 256

on-set-at : (a e : Bool) → cond e (one a) 0 ≡ one (a && e)
on-set-at true true = refl
on-set-at true false = refl
on-set-at false true = refl
on-set-at false false = refl

pub on-set : (A E : Set) → of_set A on E ≡ of_set (A ∩ E)
unfolding of_set ◌on◌ ◌∩◌
on-set A E = fun_ext (λ s. on-set-at (A s) (E s))

pub one-way-shared : (A E : Set) → total (of_set A on E) ≡ size (A ∩ E)
one-way-shared A E = ap total (on-set A E) ∙ one-way-size (A ∩ E)

one-way-at : (a b : Bool) → min 1 (one a + one b) ≡ one (a || b)
one-way-at true true = refl
one-way-at true false = refl
one-way-at false true = refl
one-way-at false false = refl

pub one-way-union : (A B : Set) → capped 1 (of_set A ⊕ of_set B) ≡ of_set (A ∪ B)
unfolding capped of_set ◌⊕◌ ◌∪◌
one-way-union A B = fun_ext (λ s. one-way-at (A s) (B s))
