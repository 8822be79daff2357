-- The rows of a table: what becomes of it, and its report in a buffer.
use Rattle.std.proofs.Common.{◌≡◌, ℕ, ◌≤◌, List, take, length, arith, ap, Result, Ok}
use Rattle.analysis.specs.declared.rows.Row.{Row}
use Rattle.search.specs.Positions.{front}
use Rattle.table.specs.declared.Table.{Table}
use Rattle.texts.specs.declared.refusals.Refusal.{Refusal}
use Rattle.analysis.specs.Rows.{row_of, no_row}
use Rattle.writing.specs.Delivery.{PutsText}
use Rattle.writing.proofs.Deliveries.{fitting}
use Rattle.report.specs.VerdictRows.{answers_in}
use Rattle.report.specs.Reported.{DeliversReport}
use Rattle.report.specs.Verdicts.{verdicts_in}
use Rattle.report.specs.Report.{report_in}
use Rattle.report.proofs.RowAnswers.{verdicts-are, report-is}
use Rattle.lists.specs.declared.Fate.TheVariants.{Judged}
use Rattle.builds.specs.Fates.{judged}

module _ (table : Table) (rows : List Row) (e : rows ≡ front no_row (row_of table) table.count) where
  pub is-judged : table.count ≤ length rows → Judged (verdicts_in (length (take table.count rows)) (answers_in (take table.count rows))) ≡ judged table
  is-judged long = ap Judged (verdicts-are table rows e long)

  -- the report is put where there is room for it
  pub report-put : (out after : List ℕ) (w : Result ℕ Refusal) → 2746 ≤ length out → DeliversReport table (answers_in rows) out w after
      → (w ≡ Ok (length (report_in table))) × PutsText (report_in table) out (length (report_in table)) after
  report-put out after w room r =
      let same = report-is table rows e in
      rw (← same) (fitting (omega (arith, r.short)) r.delivered)
