-- The verdict line depends on nothing but the answers of the tasks under the six methods.
use Rattle.std.specs.Prelude.{List, codes}
use Rattle.std.proofs.Common.{length, take, length-take-le, ◌≡◌, sym, ap, ◌∙◌, true, ◌&&◌, ℕ, ◌-◌, ◌<◌, ◌≤◌, arith}
use Rattle.std.proofs.Math.Seq.{get_or-take}
use Rattle.analysis.specs.declared.rows.Row.{Row}
use Rattle.search.specs.declared.demand.Response.{Response}
use Rattle.search.specs.Positions.{fold_by}
use Rattle.search.proofs.PositionLaws.{fold_same}
use Rattle.writing.specs.Text.{line_of, yes_no}
use Rattle.analysis.specs.Verdict.{verdict}
use Rattle.search.specs.Least.{has_response}
use Rattle.report.specs.Verdicts.{every_verdict, verdicts_in, verdict_line}
use Rattle.report.specs.VerdictRows.{blank_row, answer_under, answers_in}
use Rattle.report.proofs.Lists.{methods-are, methods-same}

pub verdict-line-agrees : (n : ℕ) (f g : ℕ → ℕ → Response) → ((m i : ℕ) → m < 6 → i < n → f m i ≡ g m i) → verdict_line n f ≡ verdict_line n g
unfolding verdict_line
verdict-line-agrees n f g h =
    ap (λ (texts : List (List ℕ)). line_of (codes "V") texts)
    (methods-same (λ m. yes_no (verdict n (f m))) (λ m. yes_no (verdict n (g m)))
    (λ m k. ap yes_no (fold_same ◌&&◌ true (λ i. has_response (f m i)) (λ i. has_response (g m i)) 0 (n - 0) (λ i _ l. ap has_response (h m i k (omega arith))))))

-- that of the first rows is that of the rows, asked of so many tasks
pub verdict-line-front : (rows : List Row) (n : ℕ) → n ≤ length rows → verdict_line (length (take n rows)) (answers_in (take n rows)) ≡ verdict_line n (answers_in rows)
verdict-line-front rows n h =
    rw (length-take-le n rows h)
    (verdict-line-agrees n (answers_in (take n rows)) (answers_in rows) (λ m i _ l. ap (λ (row : Row). answer_under row m) (get_or-take n rows i blank_row l)))

-- and so does whether all verdicts are yes
pub verdicts-agree : (n : ℕ) (f g : ℕ → ℕ → Response) → ((m i : ℕ) → m < 6 → i < n → f m i ≡ g m i) → every_verdict n f ≡ every_verdict n g
verdicts-agree n f g h =
    ap (fold_by ◌&&◌ true (λ m. verdict n (f m))) (sym methods-are)
    ∙ fold_same ◌&&◌ true (λ m. verdict n (f m)) (λ m. verdict n (g m)) 0 6
    (λ m _ k. fold_same ◌&&◌ true (λ i. has_response (f m i)) (λ i. has_response (g m i)) 0 (n - 0) (λ i _ l. ap has_response (h m i (omega arith) (omega arith))))
    ∙ ap (fold_by ◌&&◌ true (λ m. verdict n (g m))) methods-are

-- and so do the verdicts
pub each-verdict-agrees : (n : ℕ) (f g : ℕ → ℕ → Response) → ((m i : ℕ) → m < 6 → i < n → f m i ≡ g m i) → verdicts_in n f ≡ verdicts_in n g
each-verdict-agrees n f g h =
    methods-same (λ m. verdict n (f m)) (λ m. verdict n (g m))
    (λ m k. fold_same ◌&&◌ true (λ i. has_response (f m i)) (λ i. has_response (g m i)) 0 (n - 0) (λ i _ l. ap has_response (h m i k (omega arith))))
