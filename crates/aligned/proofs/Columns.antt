-- The cells of a line, column by column.
use Rattle.std.proofs.Common.{◌≡◌, ℕ, zero, suc, ◌+◌, ◌<◌, Bool, List, [], ◌∷◌, ◌++◌, length, drop, get_or, refl, sym, ap, subst, ◌∙◌, append_assoc, append-nil, arith}
use Rattle.std.specs.Prelude.{flat_map}
use Rattle.aligned.specs.declared.Cell.{Cell}
use Rattle.aligned.specs.Aligned.{shown_cell, cells_of, cell_in, width_in, columns, cell_text, aligned_line}

column-next : (k : ℕ) → k < 8 → drop k columns ≡ k ∷ drop (k + 1) columns
column-next zero h = refl
column-next (suc zero) h = refl
column-next (suc (suc zero)) h = refl
column-next (suc (suc (suc zero))) h = refl
column-next (suc (suc (suc (suc zero)))) h = refl
column-next (suc (suc (suc (suc (suc zero))))) h = refl
column-next (suc (suc (suc (suc (suc (suc zero)))))) h = refl
column-next (suc (suc (suc (suc (suc (suc (suc zero))))))) h = refl
column-next (suc (suc (suc (suc (suc (suc (suc (suc k)))))))) h = absurd (omega arith)

cell-at : (line : List Cell) (k : ℕ) (d : Cell) → k < length line → cell_in (cells_of line) k ≡ shown_cell (get_or line k d)
cell-at [] k d h = absurd (omega arith)
cell-at (c ∷ line) zero d h = refl
cell-at (c ∷ line) (suc k) d h = cell-at line k d (omega arith)

-- the text of a column
abbrev pub column_text : Bool → List ℕ → List Cell → ℕ → List ℕ
column_text colours widths line k = cell_text colours k (width_in widths k) (cell_in (cells_of line) k)

-- what was written, and the columns from k on, are the whole line
abbrev pub Written : Bool → List ℕ → List Cell → List ℕ → ℕ → List ℕ → Type 0
Written colours widths line before k out = out ++ flat_map (column_text colours widths line) (drop k columns) ≡ before ++ flat_map (column_text colours widths line) columns

pub column-more : (colours : Bool) (widths : List ℕ) (line : List Cell) (before out after : List ℕ) (k : ℕ) (d : Cell) → k < 8 → k < length line
    → after ≡ out ++ cell_text colours k (width_in widths k) (shown_cell (get_or line k d)) → Written colours widths line before k out → Written colours widths line before (k + 1) after
column-more colours widths line before out after k d few here e w =
    let F = column_text colours widths line in
    let cell : after ≡ out ++ F k = e ∙ ap (λ c. out ++ cell_text colours k (width_in widths k) c) (sym (cell-at line k d here)) in
    rw (cell, append_assoc out (F k) (flat_map F (drop (k + 1) columns))) (rw (column-next k few) at w)

-- all columns, and the line's end
pub line-done : (colours : Bool) (widths : List ℕ) (line : List Cell) (before out after : List ℕ) (k : ℕ) → k ≡ 8 → Written colours widths line before k out → after ≡ out ++ 10 ∷ []
    → after ≡ before ++ aligned_line colours widths (cells_of line)
line-done colours widths line before out after k eight w e =
    let whole : out ++ [] ≡ before ++ flat_map (column_text colours widths line) columns = subst (λ (n : ℕ). Written colours widths line before n out) eight w in
    let done : out ≡ before ++ flat_map (column_text colours widths line) columns = sym (append-nil out) ∙ whole in
    e ∙ ap (λ (l : List ℕ). l ++ 10 ∷ []) done ∙ append_assoc before (flat_map (column_text colours widths line) columns) (10 ∷ [])
