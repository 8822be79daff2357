-- What is told of a list: a line for each task of the table.
use Rattle.std.specs.Prelude.{ℕ, ◌≤◌, List, [], ◌∷◌, length, flat_map, codes, take, Result, slice_index_or}
use Rattle.search.specs.declared.demand.Response.{Response}
use Rattle.search.specs.declared.demand.Response.TheVariants.{Within}
use Rattle.search.specs.Positions.{between}
use Rattle.texts.specs.declared.refusals.Refusal.{Refusal}
use Rattle.table.specs.declared.tasks.Task.{Task}
use Rattle.table.specs.Tasks.{name_text}
use Rattle.table.specs.declared.Table.{Table}
use Rattle.table.specs.Tables.{at}
use Rattle.analysis.specs.declared.Method.{Method}
use Rattle.writing.specs.Delivery.{DeliversText}
use Rattle.writing.specs.Text.{line_of}
use Rattle.claims.specs.declared.finding.Finding.{Finding}
use Rattle.claims.specs.declared.finding.Finding.TheVariants.{Bad, Open, Fine}
use Rattle.claims.specs.declared.TheConstants.{LONGEST_FINDINGS}
use Rattle.claims.specs.Findings.{finding_of}

abbrev pub finding_word : Finding → List ℕ
finding_word Fine = codes "ok"
finding_word Open = codes "open"
finding_word Bad = codes "bad"

-- the line of a task: `C`, name, word
unfoldable pub finding_line : Task → Finding → List ℕ
finding_line task f = line_of (codes "C") (name_text task.name ∷ finding_word f ∷ [])

-- the claim for the task at a position; of one past the end nothing is said
abbrev pub claim_at : List Response → ℕ → Response
claim_at claims i = slice_index_or claims i (Within (record { 0 = 0 }))

-- the lines of all tasks, in table order
abbrev pub finding_at : Table → Method → List Response → ℕ → List ℕ
finding_at table m claims i = finding_line (at table i) (finding_of table m i (claim_at claims i))

unfoldable pub findings_text : Table → Method → List Response → List ℕ
findings_text table m claims = flat_map (finding_at table m claims) (between 0 table.count)

-- this text is delivered, and it is never longer than 640 bytes
pub record DeliversFindings (table : Table) (m : Method) (claims : List Response) (before : List ℕ) (written : Result ℕ Refusal) (after : List ℕ) : Type 0 where
  pub delivered : DeliversText (findings_text table m (take table.count claims)) before written after
  pub short : length (findings_text table m (take table.count claims)) ≤ LONGEST_FINDINGS
