-- The table of a report, from the rows that are read.
use Rattle.std.proofs.Common.{◌≡◌, ℕ, ◌<◌, ◌≤◌, Bool, List, [], ◌∷◌, ◌++◌, take, length, ap, ap₂, ◌∙◌}
use Rattle.search.specs.declared.demand.Response.{Response}
use Rattle.analysis.specs.declared.rows.Row.{Row}
use Rattle.search.specs.Positions.{front}
use Rattle.search.proofs.PositionLaws.{map_same}
use Rattle.table.specs.declared.Table.{Table}
use Rattle.table.specs.Tables.{at}
use Rattle.table.specs.Tasks.{name_text, limit_of}
use Rattle.writing.specs.Text.{spelled}
use Rattle.aligned.specs.declared.Tone.TheVariants.{Plain}
use Rattle.aligned.specs.declared.Cell.{Cell}
use Rattle.analysis.specs.Analysis.{response_of, numbered}
use Rattle.analysis.specs.Rows.{row_of, no_row}
use Rattle.report.specs.VerdictRows.{answers_in}
use Rattle.report.specs.Verdicts.{verdicts_in}
use Rattle.report.proofs.Lists.{methods-same}
use Rattle.report.proofs.RowAnswers.{rows-hold, verdicts-are}
use Rattle.aligned.specs.Aligned.{Shown, shown_lines, aligned_text}
use Rattle.shown.specs.Shown.{heading_cells, cell_of, answer_cell, task_cells, verdict_cells, report_lines, shown_of}

lines-agree : (table : Table) (f g : ℕ → ℕ → Response) (v w : List Bool) → ((m i : ℕ) → m < 6 → i < table.count → f m i ≡ g m i) → v ≡ w
    → report_lines table f v ≡ report_lines table g w
lines-agree table f g v w h e =
    ap₂ (λ (ls : List (List Shown)) (p : List Bool). heading_cells ∷ (ls ++ verdict_cells p ∷ []))
    (map_same (λ i. task_cells (at table i) (λ m. f m i)) (λ i. task_cells (at table i) (λ m. g m i)) table.count
    (λ i l. ap (λ (cs : List Shown). cell_of Plain (name_text (at table i).name) ∷ cell_of Plain (spelled (limit_of (at table i))) ∷ cs) (methods-same (λ m. answer_cell (f m i)) (λ m. answer_cell (g m i)) (λ m k. ap answer_cell (h m i k l)))))
    e

pub shown-is : (table : Table) (rows : List Row) → rows ≡ front no_row (row_of table) table.count → table.count ≤ length rows → (colours : Bool) (passes : List Bool)
    → passes ≡ verdicts_in (length (take table.count rows)) (answers_in (take table.count rows)) → (lines lent : List (List Cell)) → shown_lines lines ≡ report_lines table (answers_in rows) passes
    → lent ≡ lines → (out : List ℕ) → out ≡ aligned_text colours (shown_lines lent) → out ≡ shown_of colours table
shown-is table rows e long colours passes p lines lent l same out o =
    o ∙ ap (λ (ls : List (List Cell)). aligned_text colours (shown_lines ls)) same
    ∙ ap (aligned_text colours) (l ∙ lines-agree table (answers_in rows) (λ m. response_of table (numbered m)) passes _ (rows-hold table rows e) (p ∙ verdicts-are table rows e long))
