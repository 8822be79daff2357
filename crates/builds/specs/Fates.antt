-- What becomes of a build whose table is read: the verdicts of its report, or its refusal.
use Rattle.std.specs.Prelude.{ℕ, List, Result, Ok, Err}
use Rattle.texts.specs.declared.refusals.Refusal.{Refusal}
use Rattle.table.specs.declared.Table.{Table}
use Rattle.table.specs.Reading.{read_text}
use Rattle.analysis.specs.Analysis.{response_of, numbered}
use Rattle.report.specs.Verdicts.{verdicts_in}
use Rattle.lists.specs.declared.Fate.{Fate}
use Rattle.lists.specs.declared.Fate.TheVariants.{Refused, Judged}

-- of a table
abbrev pub judged : Table → Fate
judged table = Judged (verdicts_in table.count (λ m. response_of table (numbered m)))

-- of a table, or of a refusal
abbrev pub fate_in : Result Table Refusal → Fate
fate_in (Ok table) = judged table
fate_in (Err refusal) = Refused refusal

-- of a text
unfoldable pub fate_of : List ℕ → Fate
fate_of text = fate_in (read_text text)
