-- The picture of a table that is read, from the rows of its answers.
use Rattle.std.proofs.Common.{◌≡◌, ℕ, ◌+◌, ◌*◌, ◌<◌, ◌≤◌, Bool, List, [], ◌∷◌, ◌++◌, take, length, ap, ap₂, subst, ◌∙◌, append_assoc, Ok}
use Rattle.std.specs.Prelude.{flat_map, codes}
use Rattle.search.specs.declared.demand.Response.{Response}
use Rattle.search.specs.Positions.{front}
use Rattle.table.specs.declared.tasks.Task.{Task}
use Rattle.table.specs.declared.Table.{Table}
use Rattle.table.specs.Tables.{at}
use Rattle.table.specs.Tasks.{limit_of}
use Rattle.table.specs.Reading.{read_text}
use Rattle.analysis.specs.declared.rows.Row.{Row}
use Rattle.analysis.specs.Analysis.{response_of, numbered}
use Rattle.analysis.specs.Rows.{row_of, no_row}
use Rattle.report.specs.VerdictRows.{answers_in}
use Rattle.report.specs.Verdicts.{method_numbers, verdicts_in}
use Rattle.report.proofs.Lists.{flat_map-same, methods-are}
use Rattle.report.proofs.RowAnswers.{rows-hold, verdicts-are}
use Rattle.drawn.specs.Svg.{sheet_end}
use Rattle.bars.specs.Bars.{method_drawn, bars_drawn, edge_drawn, name_drawn, limit_drawn, task_drawn, task_top, tasks_drawn, report_sheet, hatch_line, headings_drawn, picture_of, picture_to}

-- ---- answers that agree are drawn alike

methods-agree : (f g : ℕ → List ℕ) → ((m : ℕ) → m < 6 → f m ≡ g m) → flat_map f method_numbers ≡ flat_map g method_numbers
methods-agree f g h = subst (λ (ms : List ℕ). flat_map f ms ≡ flat_map g ms) methods-are (flat_map-same f g 6 h)

bars-agree : (limit top : ℕ) (f g : ℕ → Response) → ((m : ℕ) → m < 6 → f m ≡ g m) → bars_drawn limit top f ≡ bars_drawn limit top g
unfolding bars_drawn
bars-agree limit top f g h =
    methods-agree (λ m. method_drawn limit (top + 180 * m) m (f m)) (λ m. method_drawn limit (top + 180 * m) m (g m)) (λ m l. ap (method_drawn limit (top + 180 * m) m) (h m l))

task-agrees : (top : ℕ) (task : Task) (f g : ℕ → Response) → ((m : ℕ) → m < 6 → f m ≡ g m) → task_drawn top task f ≡ task_drawn top task g
unfolding task_drawn
task-agrees top task f g h =
    ap (λ (bars : List ℕ). name_drawn top task ++ limit_drawn top task ++ edge_drawn 1200 top (codes "stroke=\"#888\" stroke-width=\"1\"") ++ bars
    ++ edge_drawn 7200 top (codes "stroke=\"black\" stroke-width=\"2\"")) (bars-agree (limit_of task) (top + 260) f g h)

module _ (table : Table) (rows : List Row) (e : rows ≡ front no_row (row_of table) table.count) where
  tasks-are : tasks_drawn table (answers_in rows) ≡ tasks_drawn table (λ m. response_of table (numbered m))
  tasks-are =
      flat_map-same (λ i. task_drawn (task_top i) (at table i) (λ m. answers_in rows m i)) (λ i. task_drawn (task_top i) (at table i) (λ m. response_of table (numbered m) i)) table.count
      (λ i l. task-agrees (task_top i) (at table i) (λ m. answers_in rows m i) (λ m. response_of table (numbered m) i) (λ m k. rows-hold table rows e m i k l))

  pub report-drawn : table.count ≤ length rows → (name : List ℕ) (passes : List Bool) → passes ≡ verdicts_in (length (take table.count rows)) (answers_in (take table.count rows))
      → (hatch t₀ t₁ t₂ t₃ out : List ℕ) → hatch ++ 10 ∷ [] ≡ hatch_line → t₀ ≡ report_sheet name table.count → t₁ ≡ t₀ ++ hatch ++ 10 ∷ [] → t₂ ≡ t₁ ++ headings_drawn name passes
      → t₃ ≡ t₂ ++ tasks_drawn table (answers_in rows) → out ≡ t₃ ++ sheet_end → out ≡ picture_of name table
  report-drawn long name passes v hatch t₀ t₁ t₂ t₃ out h a b c d x =
      let verdicts = verdicts_in table.count (λ m. response_of table (numbered m)) in
      let hatched : t₁ ≡ report_sheet name table.count ++ hatch_line =
      b ∙ ap (λ (l : List ℕ). l ++ hatch ++ 10 ∷ []) a ∙ append_assoc (report_sheet name table.count) hatch (10 ∷ []) ∙ ap (λ (l : List ℕ). report_sheet name table.count ++ l) h in
      let headed : t₂ ≡ report_sheet name table.count ++ hatch_line ++ headings_drawn name verdicts =
      c ∙ ap₂ (λ (l : List ℕ) (ps : List Bool). l ++ headings_drawn name ps) hatched (v ∙ verdicts-are table rows e long) in
      let listed : t₃ ≡ report_sheet name table.count ++ hatch_line ++ headings_drawn name verdicts ++ tasks_drawn table (λ m. response_of table (numbered m)) =
      d ∙ ap₂ (λ (l m : List ℕ). l ++ m) headed tasks-are in
      x ∙ ap (λ (l : List ℕ). l ++ sheet_end) listed

-- ---- of a text

pub text-drawn : (text : List ℕ) (table : Table) → Ok table ≡ read_text text → (name out : List ℕ) → out ≡ picture_of name table → Ok out ≡ picture_to name text
unfolding picture_to
text-drawn text table read name out e = rw (← read) (ap Ok e)
