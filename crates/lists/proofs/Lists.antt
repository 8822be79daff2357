-- What a sort leaves are the lines in order; lists put together.
use Rattle.std.proofs.Common.{◌≡◌, ℕ, ◌+◌, ◌≤◌, Bool, true, false, cond, eqb, List, [], ◌∷◌, ◌++◌, map, length, drop, sum_by, flat_map, IsPermutation, IsSorted, is_lt, Vec, Global, Bor, refl, sym, ap, ap₂, ◌∙◌, append-nil, drop_of_length-le}
use Rattle.std.proofs.lemmas.List.Concat.{flat_map-append}
use Rattle.std.proofs.lemmas.List.Sorted.{sum_by-IsPermutation}
use Rattle.std.proofs.lemmas.List.Sums.{sum_by-cons}
use Rattle.texts.specs.Cut.{lead, lines}
use Rattle.lists.specs.Together.{lent_of, texts_of, lines_in, compare_lines, in_place, ascending, text_of_lines, together}
use Rattle.lists.proofs.Orders.{times, times-append, times-ascending, sorted-by, ascending-same}

sorted-is : (found sorted : List (Bor (List ℕ))) → IsPermutation found sorted → IsSorted (λ x y. compare_lines x.now y.now) sorted → lent_of sorted ≡ ascending (lent_of found)
sorted-is = sorted-by (λ (b : Bor (List ℕ)). b.now)

pub put-together : (lists : List (Vec ℕ Global)) (found sorted items : List (Bor (List ℕ))) (i k : ℕ) (list : List ℕ) → length lists ≤ i
    → lent_of found ++ lines_in (texts_of (drop i lists)) ≡ lines_in (texts_of lists) → IsPermutation found sorted → IsSorted (λ x y. compare_lines x.now y.now) sorted
    → items ≡ sorted → length items ≤ k → list ++ text_of_lines (lent_of (drop k items)) ≡ text_of_lines (lent_of items) → list ≡ together (texts_of lists)
unfolding together
put-together lists found sorted items i k list all a p s e done b =
    let lines : lent_of found ≡ lines_in (texts_of lists) = sym (append-nil (lent_of found)) ∙ (rw (drop_of_length-le lists all) at a) in
    let text : list ≡ text_of_lines (lent_of items) = sym (append-nil list) ∙ (rw (drop_of_length-le items done) at b) in
    text ∙ ap (λ (ls : List (Bor (List ℕ))). text_of_lines (lent_of ls)) e ∙ ap text_of_lines (sorted-is found sorted p s ∙ ap ascending lines)

-- ---- whatever the order of the lists

times-lines : (x : List ℕ) (ls : List (List ℕ)) → times x (lines_in ls) ≡ sum_by (λ l. times x (lines l)) ls
times-lines x [] = refl
times-lines x (l ∷ ls) =
    times-append x (lines l) (lines_in ls) ∙ ap (λ (n : ℕ). times x (lines l) + n) (times-lines x ls) ∙ sym (sum_by-cons (λ k. times x (lines k)) l ls)

pub together-same : (xs ys : List (List ℕ)) → ((x : List ℕ) → times x (lines_in xs) ≡ times x (lines_in ys)) → together xs ≡ together ys
unfolding together
together-same xs ys e = ap text_of_lines (ascending-same (lines_in xs) (lines_in ys) e)

pub together-permutation : (xs ys : List (List ℕ)) → IsPermutation xs ys → together xs ≡ together ys
together-permutation xs ys p =
    together-same xs ys (λ x. times-lines x xs ∙ sym (sum_by-IsPermutation (λ l. times x (lines l)) xs ys p) ∙ sym (times-lines x ys))

-- ---- lists put together of lists put together

abbrev NoEnd : List ℕ → Type 0
NoEnd [] = Unit {0}
NoEnd (b ∷ l) = (eqb b 10 ≡ false) × NoEnd l

abbrev NoEnds : List (List ℕ) → Type 0
NoEnds [] = Unit {0}
NoEnds (l ∷ ls) = NoEnd l × NoEnds ls

lead-no-end : (b : ℕ) (ls : List (List ℕ)) → eqb b 10 ≡ false → NoEnds ls → NoEnds (lead b ls)
lead-no-end b [] e n = ((e, tt), tt)
lead-no-end b (l ∷ ls) e n = ((e, n.0), n.1)

lines-no-end : (s : List ℕ) → NoEnds (lines s)
unfolding lines
lines-no-end [] = tt
lines-no-end (b ∷ s) = go (eqb b 10) refl (lines-no-end s)
  where
    go : (t : Bool) → eqb b 10 ≡ t → NoEnds (lines s) → NoEnds (cond t ([] ∷ lines s) (lead b (lines s)))
    go true e n = (tt, n)
    go false e n = lead-no-end b (lines s) e n

no-ends-append : (ks ls : List (List ℕ)) → NoEnds ks → NoEnds ls → NoEnds (ks ++ ls)
no-ends-append [] ls m n = n
no-ends-append (k ∷ ks) ls m n = (m.0, no-ends-append ks ls m.1 n)

lines_in-no-end : (ls : List (List ℕ)) → NoEnds (lines_in ls)
lines_in-no-end [] = tt
lines_in-no-end (l ∷ ls) = no-ends-append (lines l) (lines_in ls) (lines-no-end l) (lines_in-no-end ls)

in_place-no-end : (l : List ℕ) (ls : List (List ℕ)) → NoEnd l → NoEnds ls → NoEnds (in_place l ls)
in_place-no-end l [] m n = (m, tt)
in_place-no-end l (k ∷ ks) m n = go (is_lt (compare_lines k l)) (in_place-no-end l ks m n.1)
  where
    go : (t : Bool) → NoEnds (in_place l ks) → NoEnds (cond t (k ∷ in_place l ks) (l ∷ k ∷ ks))
    go true r = (n.0, r)
    go false r = (m, n)

ascending-no-end : (ls : List (List ℕ)) → NoEnds ls → NoEnds (ascending ls)
unfolding ascending
ascending-no-end [] n = tt
ascending-no-end (l ∷ ls) n = in_place-no-end l (ascending ls) n.0 (ascending-no-end ls n.1)

line-read : (l s : List ℕ) → NoEnd l → lines ((l ++ 10 ∷ []) ++ s) ≡ l ∷ lines s
unfolding lines
line-read [] s n = refl
line-read (b ∷ l) s n = rw n.0 (ap (lead b) (line-read l s n.1))

no-lines : lines [] ≡ []
unfolding lines
no-lines = refl

lines-read : (ls : List (List ℕ)) → NoEnds ls → lines (text_of_lines ls) ≡ ls
lines-read [] n = no-lines
lines-read (l ∷ ls) n = line-read l (text_of_lines ls) n.0 ∙ ap (λ (ks : List (List ℕ)). l ∷ ks) (lines-read ls n.1)

lines-together : (ls : List (List ℕ)) → lines (together ls) ≡ ascending (lines_in ls)
unfolding together
lines-together ls = lines-read (ascending (lines_in ls)) (ascending-no-end (lines_in ls) (lines_in-no-end ls))

times-parts : (x : List ℕ) (parts : List (List (List ℕ))) → times x (lines_in (map together parts)) ≡ times x (lines_in (flat_map (λ p. p) parts))
times-parts x [] = refl
times-parts x (p ∷ ps) =
    let rest = flat_map (λ q. q) ps in
    times-append x (lines (together p)) (lines_in (map together ps)) ∙ ap₂ ◌+◌ (ap (times x) (lines-together p) ∙ times-ascending x (lines_in p)) (times-parts x ps)
    ∙ sym (times-append x (lines_in p) (lines_in rest)) ∙ ap (times x) (sym (flat_map-append lines p rest))

pub together-parts : (lists all : List (List ℕ)) (parts : List (List (List ℕ))) → IsPermutation all (flat_map (λ p. p) parts) → lists ≡ map together parts → together lists ≡ together all
together-parts lists all parts p e =
    ap together e ∙ together-same (map together parts) (flat_map (λ q. q) parts) (λ x. times-parts x parts) ∙ sym (together-permutation all (flat_map (λ q. q) parts) p)
