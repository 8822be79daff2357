-- The lines of a table, one by one.
use Rattle.std.proofs.Common.{◌≡◌, ℕ, ◌+◌, List, [], ◌∷◌, ◌++◌, map, ap, sym, ◌∙◌}
use Rattle.std.proofs.lemmas.List.{map-append}
use Rattle.search.specs.Positions.{between}
use Rattle.search.proofs.PositionLaws.{map_next}
use Rattle.aligned.specs.declared.Cell.{Cell}
use Rattle.aligned.specs.Aligned.{Shown, cells_of, shown_lines}

-- a line more, which is that of the next position
pub lines-more : (lines after : List (List Cell)) (line : List Cell) (head : List Shown) (f : ℕ → List Shown) (i : ℕ) → after ≡ lines ++ line ∷ [] → cells_of line ≡ f i
    → shown_lines lines ≡ head ∷ map f (between 0 i) → shown_lines after ≡ head ∷ map f (between 0 (i + 1))
lines-more lines after line head f i e l p =
    ap shown_lines e ∙ map-append cells_of lines (line ∷ []) ∙ ap (λ (ls : List (List Shown)). ls ++ cells_of line ∷ []) p
    ∙ ap (λ (c : List Shown). head ∷ (map f (between 0 i) ++ c ∷ [])) l ∙ ap (λ (ls : List (List Shown)). head ∷ ls) (sym (map_next f i))
