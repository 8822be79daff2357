-- The verdicts of the methods, and the last line of the report as bytes. In it `answers m i` is what method m answers for the task at position i.
use Rattle.std.specs.Prelude.{ℕ, Bool, true, ◌&&◌, List, [], ◌∷◌, map, codes, Result, Ok}
use Rattle.search.specs.declared.demand.Response.{Response}
use Rattle.search.specs.Positions.{fold_by}
use Rattle.texts.specs.declared.refusals.Refusal.{Refusal}
use Rattle.table.specs.Reading.{read_text, ◌>>=◌}
use Rattle.analysis.specs.Analysis.{numbered, response_of}
use Rattle.analysis.specs.Verdict.{verdict}
use Rattle.writing.specs.Text.{line_of, yes_no}

-- the numbers of the six methods, for each of which something is listed
abbrev pub method_numbers : List ℕ
method_numbers = 0 ∷ 1 ∷ 2 ∷ 3 ∷ 4 ∷ 5 ∷ []

-- the verdict of each method
abbrev pub verdicts_in : ℕ → (ℕ → ℕ → Response) → List Bool
verdicts_in count answers = map (λ m. verdict count (answers m)) method_numbers

-- whether every task has a response under every method
abbrev pub every_verdict : ℕ → (ℕ → ℕ → Response) → Bool
every_verdict count answers = fold_by ◌&&◌ true (λ m. verdict count (answers m)) method_numbers

-- the same of the table of a text
unfoldable pub passes_to : List ℕ → Result Bool Refusal
passes_to text = do
  table ← read_text text
  Ok (every_verdict table.count (λ m. response_of table (numbered m)))

-- the last line: `V`, and the verdict of each method
unfoldable pub verdict_line : ℕ → (ℕ → ℕ → Response) → List ℕ
verdict_line count answers = line_of (codes "V") (map (λ m. yes_no (verdict count (answers m))) method_numbers)
