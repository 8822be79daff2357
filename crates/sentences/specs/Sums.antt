-- A sum: its parts one below the other, a rule, and what they come to.
use Rattle.std.specs.Prelude.{ℕ, ◌-◌, max, List, [], ◌++◌, map, flat_map, fold, length, replicate, codes}
use Rattle.writing.specs.Text.{spelled}
use Rattle.sentences.specs.declared.sums.Part.{Part}
use Rattle.sentences.specs.declared.sums.Widths.{Widths}

-- a part: whose it is, what it is, and its ticks
pub record Told : Type 0 where
  pub name : List ℕ
  pub words : List ℕ
  pub ticks : ℕ

abbrev pub told_part : Part → Told
told_part part = record { name = part.name.items; words = part.words.items; ticks = part.ticks }

abbrev pub told_parts : List Part → List Told
told_parts parts = map told_part parts

-- the columns are so wide that all names and all words fit, and the whole does
abbrev pub first_widths : ℕ → Widths
first_widths whole = record { name = length (codes "together"); words = 0; ticks = length (spelled whole) }

abbrev pub widened_by : Widths → Told → Widths
widened_by widths part = record {
  name = max widths.name (length part.name);
  words = max widths.words (length part.words);
  ticks = widths.ticks;
}

abbrev pub sum_widths : List Told → ℕ → Widths
sum_widths parts whole = fold widened_by (first_widths whole) parts

-- a text in a column
abbrev pub to_the_left : ℕ → List ℕ → List ℕ
to_the_left width text = codes "  " ++ text ++ replicate (width - length text) 32

abbrev pub to_the_right : ℕ → List ℕ → List ℕ
to_the_right width text = codes "  " ++ replicate (width - length text) 32 ++ text

-- a line
unfoldable pub sum_line : Widths → List ℕ → List ℕ → List ℕ → List ℕ
sum_line widths name words ticks = to_the_left widths.name name ++ to_the_left widths.words words ++ to_the_right widths.ticks ticks ++ codes "\n"

abbrev pub part_line : Widths → Told → List ℕ
part_line widths part = sum_line widths part.name part.words (spelled part.ticks)

-- below an empty line
abbrev pub sum_text_in : Widths → List Told → ℕ → List ℕ
sum_text_in widths parts whole =
    codes "\n" ++ flat_map (part_line widths) parts ++ sum_line widths [] [] (replicate (length (spelled whole)) 45)
    ++ sum_line widths (codes "together") [] (spelled whole)

abbrev pub sum_text : List Told → ℕ → List ℕ
sum_text parts whole = sum_text_in (sum_widths parts whole) parts whole
