-- A verdict is asked of the rows one by one.
use Rattle.std.proofs.Common.{◌≡◌, refl, sym, ap, ◌∙◌, ℕ, zero, suc, ◌≤◌, true, ◌&&◌, List, length, take, arith, add-one, zero-le}
use Rattle.std.specs.List.{list_all}
use Rattle.std.proofs.lemmas.List.Folds.{list_all_more}
use Rattle.std.proofs.Math.Seq.{take_all}
use Rattle.analysis.specs.declared.rows.Row.{Row}
use Rattle.search.specs.Positions.{run, fold_by}
use Rattle.search.proofs.PositionLaws.{fold_next}
use Rattle.analysis.specs.Verdict.{verdict}
use Rattle.search.specs.Least.{has_response}
use Rattle.report.specs.VerdictRows.{blank_row, answer_under, answers_in}

module _ (rows : List Row) (m : ℕ) where
  up_to_row : (n : ℕ) → n ≤ length rows → list_all (λ row. has_response (answer_under row m)) (take n rows) ≡ verdict n (answers_in rows m)
  unfolding run fold_by
  up_to_row zero h = refl
  up_to_row (suc n) h =
      rw (← add-one n)
      (list_all_more (λ row. has_response (answer_under row m)) rows n blank_row (omega arith)
      ∙ fold_next ◌&&◌ true (λ i. has_response (answers_in rows m i)) 0 n _ _ zero-le (up_to_row n (omega arith)) refl)

  pub all_respond : list_all (λ row. has_response (answer_under row m)) rows ≡ verdict (length rows) (answers_in rows m)
  all_respond = ap (list_all (λ row. has_response (answer_under row m))) (sym (take_all (length rows) rows (omega arith))) ∙ up_to_row (length rows) (omega arith)
