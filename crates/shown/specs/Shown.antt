-- The report of a table as people see it: headings, a line for each task, and which methods pass. In it `answers m i` is what method m answers for the
-- task at position i.
use Rattle.std.specs.Prelude.{◌≡◌, ℕ, Bool, true, false, List, [], ◌∷◌, ◌++◌, map, codes, Option, Result, Ok, Err, IsOk}
use Rattle.search.specs.declared.demand.Response.{Response}
use Rattle.search.specs.declared.demand.Response.TheVariants.{Within, Unschedulable}
use Rattle.search.specs.Positions.{between}
use Rattle.table.specs.declared.tasks.Task.{Task}
use Rattle.table.specs.Tasks.{name_text, limit_of}
use Rattle.table.specs.declared.Table.{Table}
use Rattle.table.specs.Tables.{at}
use Rattle.writing.specs.Text.{spelled}
use Rattle.texts.specs.declared.refusals.Refusal.{Refusal}
use Rattle.table.specs.Reading.{read_text, ◌>>=◌}
use Rattle.analysis.specs.Analysis.{response_of, numbered}
use Rattle.report.specs.Verdicts.{method_numbers, verdicts_in, passes_to}
use Rattle.endings.specs.declared.Ending.{Ending}
use Rattle.endings.specs.Endings.{ending_of}
use Rattle.endings.specs.declared.Answered.{Answered}
use Rattle.endings.specs.Answered.{unless_refused, WritesAnswer}
use Rattle.shown.specs.declared.Unshown.{Unshown}
use Rattle.shown.specs.declared.Unshown.TheVariants.{Refused, NoMemory}
use Rattle.aligned.specs.declared.Tone.{Tone}
use Rattle.aligned.specs.declared.Tone.TheVariants.{Plain, Heading, Good, Bad}
use Rattle.aligned.specs.Aligned.{Shown, blank_cell, aligned_text}

abbrev pub cell_of : Tone → List ℕ → Shown
cell_of tone text = record { text = text; tone = tone }

-- the headings of the columns
abbrev pub heading_cells : List Shown
heading_cells =
    cell_of Heading (codes "task")
    ∷ cell_of Heading (codes "limit")
    ∷ cell_of Heading (codes "none")
    ∷ cell_of Heading (codes "ecb-only")
    ∷ cell_of Heading (codes "ucb-only")
    ∷ cell_of Heading (codes "ucb-union")
    ∷ cell_of Heading (codes "ecb-union")
    ∷ cell_of Heading (codes "combined")
    ∷ []

-- a response, or `-`
abbrev pub answer_cell : Response → Shown
answer_cell (Within t) = cell_of Plain (spelled t.0)
answer_cell Unschedulable = cell_of Bad (codes "-")

-- a task's name, its limit, and its answers under the methods 0 to 5
abbrev pub task_cells : Task → (ℕ → Response) → List Shown
task_cells task answers = cell_of Plain (name_text task.name) ∷ cell_of Plain (spelled (limit_of task)) ∷ map (λ m. answer_cell (answers m)) method_numbers

abbrev pub verdict_cell : Bool → Shown
verdict_cell true = cell_of Good (codes "yes")
verdict_cell false = cell_of Bad (codes "no")

-- which methods pass
abbrev pub verdict_cells : List Bool → List Shown
verdict_cells passes = cell_of Heading (codes "passes") ∷ blank_cell ∷ map verdict_cell passes

abbrev pub report_lines : Table → (ℕ → ℕ → Response) → List Bool → List (List Shown)
report_lines table answers passes =
    heading_cells ∷ (map (λ i. task_cells (at table i) (λ m. answers m i)) (between 0 table.count) ++ (verdict_cells passes ∷ []))

-- the table that shows the report
abbrev pub shown_of : Bool → Table → List ℕ
shown_of colours table =
    let answers = λ (m : ℕ). response_of table (numbered m) in
    aligned_text colours (report_lines table answers (verdicts_in table.count answers))

-- of a text
unfoldable pub shown_to : Bool → List ℕ → Result (List ℕ) Refusal
shown_to colours text = do
  table ← read_text text
  Ok (shown_of colours table)

-- what is written of it; of a text that is refused nothing
abbrev pub bytes_shown : Bool → List ℕ → List ℕ
bytes_shown colours text = unless_refused (λ lines. lines) (shown_to colours text)

-- how it ends: as the report does
abbrev pub ending_shown : List ℕ → Result Ending Refusal
ending_shown text = do
  passes ← passes_to text
  Ok (ending_of passes)

abbrev pub ShowsTo : Bool → List ℕ → Option (List ℕ) → Option (List ℕ) → Answered → Type 0
ShowsTo colours text before after answered = WritesAnswer (bytes_shown colours text) (ending_shown text) before after answered

-- nothing is shown since the text is refused, or, of a text that is accepted, for lack of memory
abbrev pub IsWhy : List ℕ → Unshown → Type 0
IsWhy text (Refused refusal) = Err refusal ≡ read_text text
IsWhy text NoMemory = IsOk (read_text text)
