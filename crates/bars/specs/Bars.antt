-- The picture of a report: for each task its name and its limit, and of each method its name, a bar, and beside it the response. In it `answers m i` is what
-- method m answers for the task at position i.
use Rattle.std.specs.Prelude.{◌≡◌, ℕ, ◌+◌, ◌-◌, ◌*◌, ◌/◌, max, pos, List, [], ◌∷◌, ◌++◌, Bool, if◌then◌else◌, fold, flat_map, codes, length, drop, slice_index_or, false, nat_le, Result, Ok, Err, IsOk}
use Rattle.std.specs.Fmt.{decimal}
use Rattle.std.specs.Str.{chars, encode_utf8_all}
use Rattle.std.specs.Str.Lossy.{utf8_lossy}
use Rattle.search.specs.declared.demand.Response.{Response}
use Rattle.search.specs.declared.demand.Response.TheVariants.{Within, Unschedulable}
use Rattle.search.specs.Positions.{between}
use Rattle.table.specs.declared.tasks.Task.{Task}
use Rattle.table.specs.Tasks.{name_text, limit_of}
use Rattle.table.specs.declared.Table.{Table}
use Rattle.table.specs.Tables.{at}
use Rattle.texts.specs.declared.refusals.Refusal.{Refusal}
use Rattle.table.specs.Reading.{read_text, ◌>>=◌}
use Rattle.analysis.specs.Analysis.{response_of, numbered}
use Rattle.report.specs.Verdicts.{method_numbers, verdicts_in}
use Rattle.drawn.specs.declared.svg.Place.{Place}
use Rattle.bars.specs.declared.Undrawn.{Undrawn}
use Rattle.bars.specs.declared.Undrawn.TheVariants.{Refused, NoMemory}
use Rattle.methods.specs.Methods.{name_by_number, colour_by_number}
use Rattle.drawn.specs.Svg.{place_at, text_shape, line_shape, rectangle_shape, sheet, sheet_end}

-- so far from the left edge, and from the upper one
abbrev pub down_from : ℕ → ℕ → Place
down_from x y = place_at (pos x) (pos y)

-- ---- a bar, whose upper edge is at `top`

-- how long it is: the whole limit is 6000 long
abbrev pub bar_length : ℕ → ℕ → ℕ
bar_length limit time = 6000 * time / max limit 1

-- in the colour of its method
abbrev pub bar_style : ℕ → List ℕ
bar_style m = codes "fill=\"" ++ colour_by_number m ++ codes "\" fill-opacity=\"0.7\" stroke=\"#222\" stroke-width=\"0.5\""

-- the bar: as long as the response is of the limit; where there is none, it is hatched over the whole limit
unfoldable pub bar_drawn : ℕ → ℕ → ℕ → Response → List ℕ
bar_drawn limit top m (Within time) = rectangle_shape (down_from 1200 top) (pos (bar_length limit time.0)) (pos 130) (bar_style m)
bar_drawn limit top m Unschedulable = rectangle_shape (down_from 1200 top) (pos 6000) (pos 130) (codes "fill=\"url(#hatch)\" stroke=\"#222\" stroke-width=\"0.5\"")

-- what stands beside it on the right: the response, or that there is none
unfoldable pub response_drawn : ℕ → Response → List ℕ
response_drawn top (Within time) = text_shape (down_from 7300 (top + 110)) [] (decimal time.0)
response_drawn top Unschedulable = text_shape (down_from 7300 (top + 110)) (codes "font-weight=\"bold\"") (codes "no response")

-- what stands beside it on the left
unfoldable pub method_named_left : ℕ → ℕ → List ℕ
method_named_left top m = text_shape (down_from 1100 (top + 110)) (codes "text-anchor=\"end\"") (name_by_number m)

-- of method m: its name, the bar, and the response
unfoldable pub method_drawn : ℕ → ℕ → ℕ → Response → List ℕ
method_drawn limit top m response = method_named_left top m ++ bar_drawn limit top m response ++ response_drawn top response

-- of all methods, the first at `top`
unfoldable pub bars_drawn : ℕ → ℕ → (ℕ → Response) → List ℕ
bars_drawn limit top answers = flat_map (λ m. method_drawn limit (top + 180 * m) m (answers m)) method_numbers

-- ---- a task, which begins at `top`

-- a line beside all bars
unfoldable pub edge_drawn : ℕ → ℕ → List ℕ → List ℕ
edge_drawn x top style = line_shape (down_from x (top + 230)) (down_from x (top + 1340)) style

-- its name
unfoldable pub name_drawn : ℕ → Task → List ℕ
name_drawn top task = text_shape (down_from 240 (top + 180)) (codes "font-size=\"14\" font-weight=\"bold\"") (utf8_lossy (name_text task.name))

-- its limit
unfoldable pub limit_drawn : ℕ → Task → List ℕ
limit_drawn top task = text_shape (down_from 7200 (top + 180)) (codes "text-anchor=\"middle\"") (codes "limit " ++ decimal (limit_of task))

-- all of it, with its answers under the methods 0 to 5
unfoldable pub task_drawn : ℕ → Task → (ℕ → Response) → List ℕ
task_drawn top task answers =
    name_drawn top task
    ++ limit_drawn top task
    ++ edge_drawn 1200 top (codes "stroke=\"#888\" stroke-width=\"1\"")
    ++ bars_drawn (limit_of task) (top + 260) answers
    ++ edge_drawn 7200 top (codes "stroke=\"black\" stroke-width=\"2\"")

-- where the task at position i begins
abbrev pub task_top : ℕ → ℕ
task_top i = 1500 * i + 880

-- all tasks, one below the other
abbrev pub tasks_drawn : Table → (ℕ → ℕ → Response) → List ℕ
tasks_drawn table answers = flat_map (λ i. task_drawn (task_top i) (at table i) (λ m. answers m i)) (between 0 table.count)

-- ---- what stands above the tasks

-- the end of a name, which tells most: at most its last 50 characters
unfoldable pub name_shown : List ℕ → List ℕ
name_shown name = if nat_le (length (chars name)) 50 then name else codes "..." ++ encode_utf8_all (drop (length (chars name) - 50) (chars name))

-- one more name in a list
abbrev pub listed : List ℕ → List ℕ → List ℕ
listed [] name = name
listed (c ∷ names) name = (c ∷ names) ++ codes ", " ++ name

-- the same where it is to stand there
abbrev pub listed_if : Bool → List ℕ → List ℕ → List ℕ
listed_if passes names name = if passes then listed names name else names

-- the names of the methods that pass
abbrev pub passing_list : List Bool → List ℕ
passing_list passes = fold (λ names m. listed_if (slice_index_or passes m false) names (name_by_number m)) [] method_numbers

-- or that there is none
abbrev pub or_none : List ℕ → List ℕ
or_none [] = codes "no method"
or_none (c ∷ names) = c ∷ names

-- the methods that pass, or that none does
unfoldable pub passing_text : List Bool → List ℕ
passing_text passes = or_none (passing_list passes)

-- in words
unfoldable pub passing_words : List Bool → List ℕ
passing_words passes = codes "Every task has a response under: " ++ (passing_text passes ++ codes ".")

-- the title, in which the table has its name
unfoldable pub title_drawn : List ℕ → List ℕ
title_drawn name = text_shape (down_from 240 340) (codes "font-size=\"16\" font-weight=\"bold\"") (codes "Worst-case responses: " ++ name_shown name)

-- which methods pass
unfoldable pub passing_drawn : List Bool → List ℕ
passing_drawn passes = text_shape (down_from 240 560) [] (passing_words passes)

-- what the bars and the numbers are
unfoldable pub key_drawn : List ℕ
key_drawn =
    text_shape (down_from 240 740) (codes "fill=\"#444\"")
    (codes "Bars are parts of each task's own limit (deadline less jitter), the line on the right; numbers are ticks.")

-- the title, which methods pass, and what the bars are
unfoldable pub headings_drawn : List ℕ → List Bool → List ℕ
headings_drawn name passes = title_drawn name ++ passing_drawn passes ++ key_drawn

-- the sheet for so many tasks
unfoldable pub report_sheet : List ℕ → ℕ → List ℕ
report_sheet name count = sheet (pos 8600) (pos (task_top count + 200)) (codes "Worst-case responses: " ++ name)

-- the hatching of bars that stand for no response
abbrev pub hatch_line : List ℕ
hatch_line =
    codes "<defs><pattern id=\"hatch\" width=\"5\" height=\"5\" patternUnits=\"userSpaceOnUse\" patternTransform=\"rotate(45)\"><line x1=\"0\" y1=\"0\" x2=\"0\" y2=\"5\" stroke=\"#222\" stroke-width=\"2\"/></pattern></defs>\n"

-- ---- the picture of a table

-- under method m the answers are those of `response_of` by the method whose number is m
abbrev pub picture_of : List ℕ → Table → List ℕ
picture_of name table =
    let answers = λ (m : ℕ). response_of table (numbered m) in
    report_sheet name table.count ++ hatch_line ++ headings_drawn name (verdicts_in table.count answers) ++ tasks_drawn table answers ++ sheet_end

-- of a text; `name` is what the table is called
unfoldable pub picture_to : List ℕ → List ℕ → Result (List ℕ) Refusal
picture_to name text = do
  table ← read_text text
  Ok (picture_of name table)

-- nothing is drawn since the text is refused, or, of a text that is accepted, for lack of memory
abbrev pub IsWhyUndrawn : List ℕ → Undrawn → Type 0
IsWhyUndrawn text (Refused refusal) = Err refusal ≡ read_text text
IsWhyUndrawn text NoMemory = IsOk (read_text text)
