-- Lines of printable cells are printable, where there are no colours.
use Rattle.std.proofs.Common.{ℕ, zero, suc, ◌-◌, Bool, true, false, cond, ◌==◌, List, [], ◌∷◌, ◌++◌, length, map, flat_map, replicate, refl}
use Rattle.std.specs.List.{AllByRecursion as ByRecursion}
use Rattle.writing.proofs.Printable.{Printable, append-printable, ended-printable, flat_map-printable, spaces-printable}
use Rattle.aligned.specs.Aligned.{Shown, columns, cell_in, width_in, padded, cell_text, aligned_line}

padded-printable : (column width : ℕ) (text : List ℕ) → Printable text → Printable (padded column width text)
padded-printable column width text p = go (column == 0)
  where
    go : (b : Bool) → Printable (cond b (text ++ replicate (width - length text) 32) (replicate 2 32 ++ replicate (width - length text) 32 ++ text))
    go true = append-printable text (replicate (width - length text) 32) p (spaces-printable (width - length text))
    go false =
        append-printable (replicate 2 32 ++ replicate (width - length text) 32) text
        (append-printable (replicate 2 32) (replicate (width - length text) 32) refl (spaces-printable (width - length text))) p

abbrev pub PrintableCells : List Shown → Type 0
PrintableCells cells = ByRecursion (λ (cell : Shown). Printable cell.text) cells

pub map-cells : {X : Type 0} (f : X → Shown) → ((x : X) → Printable (f x).text) → (xs : List X) → PrintableCells (map f xs)
map-cells f each [] = tt
map-cells f each (x ∷ xs) = (each x, map-cells f each xs)

cell-printable : (cells : List Shown) → PrintableCells cells → (k : ℕ) → Printable (cell_in cells k).text
cell-printable [] p k = refl
cell-printable (cell ∷ cells) p zero = p.0
cell-printable (cell ∷ cells) p (suc k) = cell-printable cells p.1 k

cells-line-printable : (widths : List ℕ) (cells : List Shown) → PrintableCells cells → Printable (aligned_line false widths cells)
cells-line-printable widths cells p =
    ended-printable (flat_map (λ k. cell_text false k (width_in widths k) (cell_in cells k)) columns)
    (flat_map-printable (λ k. cell_text false k (width_in widths k) (cell_in cells k))
    (λ k. padded-printable k (width_in widths k) (cell_in cells k).text (cell-printable cells p k)) columns)

abbrev pub PrintableLines : List (List Shown) → Type 0
PrintableLines lines = ByRecursion PrintableCells lines

pub aligned-printable : (widths : List ℕ) (lines : List (List Shown)) → PrintableLines lines → Printable (flat_map (aligned_line false widths) lines)
aligned-printable widths [] p = refl
aligned-printable widths (cells ∷ lines) p =
    append-printable (aligned_line false widths cells) (flat_map (aligned_line false widths) lines) (cells-line-printable widths cells p.0) (aligned-printable widths lines p.1)

pub lines-append : (one other : List (List Shown)) → PrintableLines one → PrintableLines other → PrintableLines (one ++ other)
lines-append [] other p q = q
lines-append (cells ∷ one) other p q = (p.0, lines-append one other p.1 q)

pub map-lines : {X : Type 0} (f : X → List Shown) → ((x : X) → PrintableCells (f x)) → (xs : List X) → PrintableLines (map f xs)
map-lines f each [] = tt
map-lines f each (x ∷ xs) = (each x, map-lines f each xs)
