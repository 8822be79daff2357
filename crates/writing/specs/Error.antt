-- The line of a refusal.
use Rattle.std.specs.Prelude.{ℕ, List, [], ◌∷◌, codes}
use Rattle.texts.specs.declared.refusals.Refusal.{Refusal}
use Rattle.texts.specs.Numbers.{reason_number}
use Rattle.writing.specs.Text.{spelled, line_of}

-- `E`, number, line
unfoldable pub error_text : Refusal → List ℕ
error_text e = line_of (codes "E") (spelled (reason_number e.reason) ∷ spelled e.line ∷ [])
