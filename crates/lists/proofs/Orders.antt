-- Lines in order: there is one order of them, whatever order they come in.
use Rattle.std.proofs.Common.{◌≡◌, ℕ, suc, ◌+◌, ◌≤◌, Bool, true, false, cond, true≢false, List, [], ◌∷◌, ◌++◌, IsPermutation, IsSortedBy, map, sum_by, is_lt, Ordering, Less, Equal, Greater, bytes_eq, refl, sym, ap, ap₂, subst, ◌∙◌, arith, add-one}
use Rattle.std.specs.Cmp.{IsStrictWeakOrder}
use Rattle.std.specs.Cmp.Lexicographic.{nat_list_cmp_total}
use Rattle.std.specs.FinMap.{nat_cmp-IsAntisymmetric, slice_cmp-IsAntisymmetric}
use Rattle.std.specs.Ordering.{ordering_reverse}
use Rattle.std.proofs.lemmas.List.Sorted.{ranks_by, sum_by-IsPermutation, IsPermutation-map}
use Rattle.std.proofs.lemmas.List.Sums.{sum_by-cons}
use Rattle.std.proofs.lemmas.Slice.Eq.{bytes_eq-Decides}
use Rattle.lists.specs.Together.{compare_lines, in_place, ascending}

-- ---- the order

abbrev below : List ℕ → List ℕ → Bool
below x y = is_lt (compare_lines x y)

weak : IsStrictWeakOrder below
weak = ranks_by nat_list_cmp_total (λ x. x)

-- lines of which neither stands before the other are the same
same : (x y : List ℕ) → below x y ≡ false → below y x ≡ false → x ≡ y
same x y h k = go (compare_lines x y) refl h (nat_list_cmp_total.antisymm y x) k
  where
    go : (r : Ordering) → compare_lines x y ≡ r → is_lt r ≡ false → compare_lines y x ≡ ordering_reverse (compare_lines x y) → below y x ≡ false → x ≡ y
    go Less e p t q = absurd (true≢false p)
    go Equal e p t q = slice_cmp-IsAntisymmetric nat_cmp-IsAntisymmetric x y e
    go Greater e p t q = absurd (true≢false (sym (ap is_lt (t ∙ ap ordering_reverse e)) ∙ q))

not-below-itself : (x : List ℕ) → below x x ≡ false
not-below-itself x = go (below x x) refl
  where
    go : (b : Bool) → below x x ≡ b → below x x ≡ false
    go true e = weak.one_way x x e
    go false e = e

-- ---- how often a line is among lines

abbrev one : Bool → ℕ
one true = 1
one false = 0

abbrev pub times : List ℕ → List (List ℕ) → ℕ
times x [] = 0
times x (y ∷ ys) = one (bytes_eq y x) + times x ys

times-itself : (x : List ℕ) → bytes_eq x x ≡ true
times-itself x = (bytes_eq-Decides x x).1 refl

pub times-append : (x : List ℕ) (ys zs : List (List ℕ)) → times x (ys ++ zs) ≡ times x ys + times x zs
times-append x [] zs = omega arith
times-append x (y ∷ ys) zs = omega (arith, times-append x ys zs)

pub times-sum : (x : List ℕ) (ys : List (List ℕ)) → sum_by (λ y. one (bytes_eq y x)) ys ≡ times x ys
times-sum x [] = refl
times-sum x (y ∷ ys) = sum_by-cons (λ y. one (bytes_eq y x)) y ys ∙ ap (λ (n : ℕ). one (bytes_eq y x) + n) (times-sum x ys)

pub times-permutation : (x : List ℕ) (ys zs : List (List ℕ)) → IsPermutation ys zs → times x ys ≡ times x zs
times-permutation x ys zs p = sym (times-sum x ys) ∙ sym (sum_by-IsPermutation (λ y. one (bytes_eq y x)) ys zs p) ∙ times-sum x zs

times-in_place : (x l : List ℕ) (ls : List (List ℕ)) → times x (in_place l ls) ≡ one (bytes_eq l x) + times x ls
times-in_place x l [] = refl
times-in_place x l (k ∷ ks) = go (below k l) (times-in_place x l ks)
  where
    go : (b : Bool) → times x (in_place l ks) ≡ one (bytes_eq l x) + times x ks → times x (cond b (k ∷ in_place l ks) (l ∷ k ∷ ks)) ≡ one (bytes_eq l x) + (one (bytes_eq k x) + times x ks)
    go true e = omega (arith, e)
    go false e = refl

pub times-ascending : (x : List ℕ) (ls : List (List ℕ)) → times x (ascending ls) ≡ times x ls
unfolding ascending
times-ascending x [] = refl
times-ascending x (l ∷ ls) = times-in_place x l (ascending ls) ∙ ap (λ (n : ℕ). one (bytes_eq l x) + n) (times-ascending x ls)

-- ---- lines none of which is less than the one before it

abbrev Leads : List ℕ → List (List ℕ) → Type 0
Leads x [] = Unit {0}
Leads x (y ∷ ys) = below y x ≡ false

abbrev pub Rising : List (List ℕ) → Type 0
Rising [] = Unit {0}
Rising (x ∷ xs) = Leads x xs × Rising xs

leads-in_place : (k l : List ℕ) (ks : List (List ℕ)) → Leads k ks → below l k ≡ false → Leads k (in_place l ks)
leads-in_place k l [] h e = e
leads-in_place k l (j ∷ js) h e = go (below j l)
  where
    go : (b : Bool) → Leads k (cond b (j ∷ in_place l js) (l ∷ j ∷ js))
    go true = h
    go false = e

rising-in_place : (l : List ℕ) (ls : List (List ℕ)) → Rising ls → Rising (in_place l ls)
rising-in_place l [] r = (tt, tt)
rising-in_place l (k ∷ ks) r = go (below k l) refl (rising-in_place l ks r.1)
  where
    go : (b : Bool) → below k l ≡ b → Rising (in_place l ks) → Rising (cond b (k ∷ in_place l ks) (l ∷ k ∷ ks))
    go true e s = (leads-in_place k l ks r.0 (weak.one_way k l e), s)
    go false e s = (e, r)

pub rising-ascending : (ls : List (List ℕ)) → Rising (ascending ls)
unfolding ascending
rising-ascending [] = tt
rising-ascending (l ∷ ls) = rising-in_place l (ascending ls) (rising-ascending ls)

-- no line is less than the first one
first : (u v : List ℕ) (ws : List (List ℕ)) → (1 ≤ times u ws → below u v ≡ false) → (b : Bool) → bytes_eq v u ≡ b → 1 ≤ one b + times u ws → below u v ≡ false
first u v ws f true e p = subst (λ (x : List ℕ). below u x ≡ false) (sym ((bytes_eq-Decides v u).0 e)) (not-below-itself u)
first u v ws f false e p = f (omega (arith, p))

least : (u v : List ℕ) (vs : List (List ℕ)) → Rising (v ∷ vs) → 1 ≤ times u (v ∷ vs) → below u v ≡ false
least u v [] r h = first u v [] (λ p. absurd (omega (arith, p))) (bytes_eq v u) refl h
least u v (w ∷ ws) r h = first u v (w ∷ ws) (λ p. weak.chain u w v (least u w ws r.1 p) r.0) (bytes_eq v u) refl h

pub unique : (us vs : List (List ℕ)) → Rising us → Rising vs → ((x : List ℕ) → times x us ≡ times x vs) → us ≡ vs
unique [] [] p q e = refl
unique [] (v ∷ vs) p q e = let one_more : one (bytes_eq v v) ≡ 1 = ap one (times-itself v) in absurd (omega (arith, e v, one_more))
unique (u ∷ us) [] p q e = let one_more : one (bytes_eq u u) ≡ 1 = ap one (times-itself u) in absurd (omega (arith, e u, one_more))
unique (u ∷ us) (v ∷ vs) p q e =
    let a : one (bytes_eq u u) ≡ 1 = ap one (times-itself u) in
    let b : one (bytes_eq v v) ≡ 1 = ap one (times-itself v) in
    let is : u ≡ v = same u v (least u v vs q (omega (arith, e u, a))) (least v u us p (omega (arith, e v, b))) in
    ap₂ ◌∷◌ is (unique us vs p.1 q.1 (λ x. let o : one (bytes_eq u x) ≡ one (bytes_eq v x) = ap (λ (w : List ℕ). one (bytes_eq w x)) is in omega (arith, e x, o)))

-- ---- so the order of lines does not matter

pub ascending-same : (xs ys : List (List ℕ)) → ((x : List ℕ) → times x xs ≡ times x ys) → ascending xs ≡ ascending ys
ascending-same xs ys e =
    unique (ascending xs) (ascending ys) (rising-ascending xs) (rising-ascending ys) (λ x. times-ascending x xs ∙ e x ∙ sym (times-ascending x ys))

-- what is sorted by lines
rising-by : {X : Type 0} (key : X → List ℕ) (ys : List X) → IsSortedBy (λ x y. is_lt (compare_lines (key x) (key y))) ys → Rising (map key ys)
rising-by key [] s = tt
rising-by key (y ∷ []) s = (tt, tt)
rising-by key (y ∷ z ∷ ys) s =
    (s 0 y (omega arith) (omega arith), rising-by key (z ∷ ys) (λ k d p q. simp (add-one) (simp (add-one) at (s (suc k) d (omega arith) (omega arith)))))

pub sorted-by : {X : Type 0} (key : X → List ℕ) (xs ys : List X) → IsPermutation xs ys → IsSortedBy (λ x y. is_lt (compare_lines (key x) (key y))) ys → map key ys ≡ ascending (map key xs)
sorted-by key xs ys p s =
    unique (map key ys) (ascending (map key xs)) (rising-by key ys s) (rising-ascending (map key xs))
    (λ x. sym (times-permutation x (map key xs) (map key ys) (IsPermutation-map key xs ys p)) ∙ sym (times-ascending x (map key xs)))

pub by-lines : {X : Type 0} (key : X → List ℕ) → IsStrictWeakOrder (λ x y. is_lt (compare_lines (key x) (key y)))
by-lines key = ranks_by nat_list_cmp_total key
