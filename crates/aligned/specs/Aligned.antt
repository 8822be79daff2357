-- A table of cells whose columns are aligned, as bytes.
use Rattle.std.specs.Prelude.{ℕ, ◌-◌, max, Bool, true, false, List, [], ◌∷◌, ◌++◌, map, flat_map, fold, length, replicate, slice_index_or, if◌then◌else◌, ◌==◌}
use Rattle.writing.specs.Text.{spelled}
use Rattle.aligned.specs.declared.Content.{Content}
use Rattle.aligned.specs.declared.Content.TheVariants.{Nothing, Number, Words}
use Rattle.aligned.specs.declared.Tone.{Tone}
use Rattle.aligned.specs.declared.Tone.TheVariants.{Plain, Heading, Good, Bad}
use Rattle.aligned.specs.declared.Cell.{Cell}

-- what stands in a cell
abbrev pub content_text : Content → List ℕ
content_text Nothing = []
content_text (Number n) = spelled n
content_text (Words w) = w.now

-- what makes a terminal show a tone: ESC `[1m`, `[32m` and `[1;31m`; nothing for a plain one
abbrev pub tone_code : Tone → List ℕ
tone_code Plain = []
tone_code Heading = 27 ∷ 91 ∷ 49 ∷ 109 ∷ []
tone_code Good = 27 ∷ 91 ∷ 51 ∷ 50 ∷ 109 ∷ []
tone_code Bad = 27 ∷ 91 ∷ 49 ∷ 59 ∷ 51 ∷ 49 ∷ 109 ∷ []

-- ESC `[0m`: plain again
abbrev pub plain_code : List ℕ
plain_code = 27 ∷ 91 ∷ 48 ∷ 109 ∷ []

-- a text and its tone
pub record Shown : Type 0 where
  pub text : List ℕ
  pub tone : Tone

abbrev pub shown_cell : Cell → Shown
shown_cell cell = record { text = content_text cell.content; tone = cell.tone }

abbrev pub blank_cell : Shown
blank_cell = record { text = []; tone = Plain }

abbrev pub cells_of : List Cell → List Shown
cells_of cells = map shown_cell cells

abbrev pub shown_lines : List (List Cell) → List (List Shown)
shown_lines lines = map cells_of lines

-- the columns of a table
abbrev pub columns : List ℕ
columns = 0 ∷ 1 ∷ 2 ∷ 3 ∷ 4 ∷ 5 ∷ 6 ∷ 7 ∷ []

abbrev pub cell_in : List Shown → ℕ → Shown
cell_in cells k = slice_index_or cells k blank_cell

abbrev pub width_in : List ℕ → ℕ → ℕ
width_in widths k = slice_index_or widths k 0

-- a text as wide as its column: the first to the left, the others to the right after a gap
abbrev pub padded : ℕ → ℕ → List ℕ → List ℕ
padded column width text =
    if column == 0 then text ++ replicate (width - length text) 32
    else replicate 2 32 ++ replicate (width - length text) 32 ++ text

-- in its tone, where there are colours and it has one
abbrev pub toned : Bool → Tone → List ℕ → List ℕ
toned false tone text = text
toned true Plain text = text
toned true Heading text = tone_code Heading ++ text ++ plain_code
toned true Good text = tone_code Good ++ text ++ plain_code
toned true Bad text = tone_code Bad ++ text ++ plain_code

abbrev pub cell_text : Bool → ℕ → ℕ → Shown → List ℕ
cell_text colours column width cell = toned colours cell.tone (padded column width cell.text)

-- the widths of the columns, so that a line more fits
abbrev pub widened : List ℕ → List Shown → List ℕ
widened widths cells = map (λ k. max (width_in widths k) (length (cell_in cells k).text)) columns

abbrev pub widths_of : List (List Shown) → List ℕ
widths_of lines = fold widened (replicate 8 0) lines

abbrev pub aligned_line : Bool → List ℕ → List Shown → List ℕ
aligned_line colours widths cells = flat_map (λ k. cell_text colours k (width_in widths k) (cell_in cells k)) columns ++ (10 ∷ [])

abbrev pub aligned_text : Bool → List (List Shown) → List ℕ
aligned_text colours lines = flat_map (aligned_line colours (widths_of lines)) lines
