-- The accesses that may block a task.
use Rattle.std.proofs.Common.{ℕ, suc, ◌≤◌, ◌<◌, arith, ◌≡◌, refl, ap, Bool, true, false, cond, List, [], ◌∷◌, ◌++◌, length, get_or}
use Rattle.table.specs.declared.accesses.Access.{Access}
use Rattle.table.specs.Accesses.{may_block, blocking, or_else}

-- one more at the end
pub blocking-snoc : (i : ℕ) (xs : List Access) (a : Access) → blocking i (xs ++ (a ∷ [])) ≡ blocking i xs ++ cond (may_block i a) (a ∷ []) []
blocking-snoc i [] a = refl
blocking-snoc i (x ∷ xs) a = go (may_block i x) (blocking i xs) (blocking-snoc i xs a)
  where
    last : List Access
    last = cond (may_block i a) (a ∷ []) []

    go : (t : Bool) {l : List Access} (r : List Access) → l ≡ r ++ last → cond t (x ∷ l) l ≡ cond t (x ∷ r) r ++ last
    go true r e = ap (λ (l : List Access). x ∷ l) e
    go false r e = e

-- where there are some, they are what may block
pub or_some : (plain : Access) (l : List Access) → 1 ≤ length l → l ≡ or_else plain l
or_some plain [] h = absurd (omega arith)
or_some plain (a ∷ l) h = refl

-- ---- what holds of each access of a list

abbrev pub Every : (Access → Type 0) → List Access → Type 0
Every Q [] = Unit {0}
Every Q (a ∷ l) = Q a × Every Q l

pub every_of : (Q : Access → Type 0) (l : List Access) (d : Access) → ((n : ℕ) → n < length l → Q (get_or l n d)) → Every Q l
every_of Q [] d p = tt
every_of Q (a ∷ l) d p = (p 0 (omega arith), every_of Q l d (λ n h. p (suc n) (omega arith)))

pub every-as : (Q R : Access → Type 0) (l : List Access) → ((a : Access) → Q a → R a) → Every Q l → Every R l
every-as Q R [] f p = tt
every-as Q R (a ∷ l) f p = (f a p.0, every-as Q R l f p.1)

-- of those that may block, what follows from this and holds of all
pub every-blocking : (Q : Access → Type 0) (i : ℕ) (l : List Access) → Every (λ a. may_block i a ≡ true → Q a) l → Every Q (blocking i l)
every-blocking Q i [] p = tt
every-blocking Q i (a ∷ l) p = go (may_block i a) refl (blocking i l) (every-blocking Q i l p.1)
  where
    go : (t : Bool) → may_block i a ≡ t → (r : List Access) → Every Q r → Every Q (cond t (a ∷ r) r)
    go true e r q = (p.0 e, q)
    go false e r q = q

pub every-or : (Q : Access → Type 0) (plain : Access) (l : List Access) → Q plain → Every Q l → Every Q (or_else plain l)
every-or Q plain [] q p = (q, tt)
every-or Q plain (a ∷ l) q p = p

-- ---- two lists of accesses, in which each pair is related

abbrev pub Pairwise : (Access → Access → Type 0) → List Access → List Access → Type 0
Pairwise R [] [] = Unit {0}
Pairwise R [] (b ∷ r) = ⊥
Pairwise R (a ∷ l) [] = ⊥
Pairwise R (a ∷ l) (b ∷ r) = R a b × Pairwise R l r

pub pairwise-of : (R : Access → Access → Type 0) (l r : List Access) (d : Access) → length l ≡ length r
    → ((n : ℕ) → n < length l → R (get_or l n d) (get_or r n d)) → Pairwise R l r
pairwise-of R [] [] d e p = tt
pairwise-of R [] (b ∷ r) d e p = absurd (omega arith)
pairwise-of R (a ∷ l) [] d e p = absurd (omega arith)
pairwise-of R (a ∷ l) (b ∷ r) d e p = (p 0 (omega arith), pairwise-of R l r d (omega arith) (λ n h. p (suc n) (omega arith)))

pub pairwise-as : (R S : Access → Access → Type 0) → ((a b : Access) → R a b → S a b) → (l r : List Access) → Pairwise R l r → Pairwise S l r
pairwise-as R S f [] [] p = tt
pairwise-as R S f [] (b ∷ r) p = absurd p
pairwise-as R S f (a ∷ l) [] p = absurd p
pairwise-as R S f (a ∷ l) (b ∷ r) p = (f a b p.0, pairwise-as R S f l r p.1)

-- where of each pair both may block or none, it stays so among those that may
pub pairwise-blocking : (R : Access → Access → Type 0) (i k : ℕ) → ((a b : Access) → R a b → may_block i a ≡ may_block k b) → (l r : List Access)
    → Pairwise R l r → Pairwise R (blocking i l) (blocking k r)
pairwise-blocking R i k same [] [] p = tt
pairwise-blocking R i k same [] (b ∷ r) p = absurd p
pairwise-blocking R i k same (a ∷ l) [] p = absurd p
pairwise-blocking R i k same (a ∷ l) (b ∷ r) p = rw (same a b p.0) (go (may_block k b) (blocking i l) (blocking k r) (pairwise-blocking R i k same l r p.1))
  where
    go : (t : Bool) (x y : List Access) → Pairwise R x y → Pairwise R (cond t (a ∷ x) x) (cond t (b ∷ y) y)
    go true x y q = (p.0, q)
    go false x y q = q

pub pairwise-or : (R : Access → Access → Type 0) (a b : Access) (l r : List Access) → R a b → Pairwise R l r → Pairwise R (or_else a l) (or_else b r)
pairwise-or R a b [] [] q p = (q, tt)
pairwise-or R a b [] (c ∷ r) q p = absurd p
pairwise-or R a b (c ∷ l) [] q p = absurd p
pairwise-or R a b (c ∷ l) (d ∷ r) q p = p
