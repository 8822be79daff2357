-- Each byte that is shown without colours is printable.
use Rattle.std.proofs.Common.{ℕ, Bool, true, false, List, [], ◌∷◌, map, refl}
use Rattle.std.proofs.lemmas.List.Sums.{AllPass-from_list_all}
use Rattle.std.specs.Bool.{OnFalse}
use Rattle.std.specs.List.{AllPass}
use Rattle.search.specs.declared.demand.Response.{Response}
use Rattle.search.specs.declared.demand.Response.TheVariants.{Within, Unschedulable}
use Rattle.search.specs.Positions.{between}
use Rattle.table.specs.Tasks.{limit_of}
use Rattle.table.specs.declared.Table.{Table}
use Rattle.table.specs.Tables.{at}
use Rattle.table.specs.Reading.{read_text}
use Rattle.table.specs.Accepted.{AcceptedTable}
use Rattle.table.proofs.AcceptedLaws.{accepted-table}
use Rattle.analysis.specs.Analysis.{numbered, response_of}
use Rattle.report.specs.Verdicts.{method_numbers, verdicts_in}
use Rattle.writing.specs.Printable.{is_printable_byte}
use Rattle.writing.proofs.Printable.{Printable, number-printable, name-at-printable}
use Rattle.aligned.specs.Aligned.{widths_of}
use Rattle.aligned.proofs.Printable.{map-cells, map-lines, lines-append, aligned-printable}
use Rattle.endings.proofs.Written.{then-printable}
use Rattle.shown.specs.Shown.{answer_cell, task_cells, verdict_cell, verdict_cells, report_lines, shown_of, shown_to, bytes_shown}

answer-cell-printable : (a : Response) → Printable (answer_cell a).text
answer-cell-printable (Within t) = number-printable t.0
answer-cell-printable Unschedulable = refl

verdict-cell-printable : (b : Bool) → Printable (verdict_cell b).text
verdict-cell-printable true = refl
verdict-cell-printable false = refl

module _ (table : Table) (accepted : AcceptedTable table) where
  shown-printable : Printable (shown_of false table)
  shown-printable =
      let answers = λ (m : ℕ). response_of table (numbered m) in
      let passes = verdicts_in table.count answers in
      aligned-printable (widths_of (report_lines table answers passes)) (report_lines table answers passes) (
        (refl, (refl, (refl, (refl, (refl, (refl, (refl, (refl, tt)))))))),
        lines-append (map (λ i. task_cells (at table i) (λ m. answers m i)) (between 0 table.count)) (verdict_cells passes ∷ [])
            (map-lines (λ i. task_cells (at table i) (λ m. answers m i))
            (λ i. (
              name-at-printable table accepted i,
              (number-printable (limit_of (at table i)), map-cells (λ m. answer_cell (answers m i)) (λ m. answer-cell-printable (answers m i)) method_numbers),
            )) (between 0 table.count))
            ((refl, (refl, map-cells verdict_cell verdict-cell-printable passes)), tt),
      )

shown-text-printable : (text : List ℕ) → Printable (bytes_shown false text)
unfolding shown_to
shown-text-printable text = then-printable (λ lines. lines) (read_text text) _ (λ table read. shown-printable table (accepted-table text table read))

pub show_passes : (colours : Bool) (text : List ℕ) → OnFalse colours (AllPass is_printable_byte (bytes_shown colours text))
show_passes true text = tt
show_passes false text = AllPass-from_list_all is_printable_byte (bytes_shown false text) (shown-text-printable text)
