-- An explanation in words: its sentences, and the sum of what is needed.
use Rattle.std.specs.Prelude.{ℕ, ◌≤◌, ◌<◌, ◌≡◌, List, [], ◌∷◌, ◌++◌, map, sum_by, codes, Option, Some, None, Result, Ok}
use Rattle.cache.specs.declared.units.Ticks.{Ticks}
use Rattle.cache.specs.declared.units.TheConstants.Ticks.{LONGEST}
use Rattle.search.specs.declared.demand.Response.{Response}
use Rattle.search.specs.declared.demand.Response.TheVariants.{Within, Unschedulable}
use Rattle.search.specs.Positions.{hp}
use Rattle.search.specs.Terms.{InRange}
use Rattle.table.specs.declared.Table.{Table}
use Rattle.table.specs.Tables.{at}
use Rattle.texts.specs.declared.refusals.Refusal.{Refusal}
use Rattle.table.specs.Reading.{read_text, ◌>>=◌}
use Rattle.analysis.specs.declared.costs.Charge.{Charge}
use Rattle.analysis.specs.Costs.{reloads_in, charge_under, term_with}
use Rattle.analysis.specs.BlockedRow.{ChargedUnder}
use Rattle.analysis.specs.declared.Method.{Method}
use Rattle.analysis.specs.Analysis.{response_of}
use Rattle.analysis.specs.declared.need.Need.{Need}
use Rattle.analysis.specs.Needs.{need_of}
use Rattle.writing.specs.Text.{spelled}
use Rattle.report.specs.Explanation.{activations_in, name_at}
use Rattle.report.specs.Explained.{adds_at, IsBlocker, VictimBelow}
use Rattle.crpd.specs.Operations.{method_named, position_in, answer_to}
use Rattle.endings.specs.declared.Ending.{Ending}
use Rattle.endings.specs.Endings.{ending_of}
use Rattle.search.specs.Least.{has_response}
use Rattle.sentences.specs.declared.sums.Sum.{Sum}
use Rattle.sentences.specs.Sentences.{sentences_of}
use Rattle.sentences.specs.Sums.{Told, told_parts, sum_text}

-- ---- the parts of a need

abbrev pub sum_part : List ℕ → List ℕ → ℕ → Told
sum_part name words ticks = record { name = name; words = words; ticks = ticks }

-- how many activations, and what each adds
unfoldable pub product_words : Table → ℕ → ℕ → Charge → List ℕ
product_words table r j charge =
    spelled (activations_in r (at table j)) ++ codes " x (" ++ spelled (at table j).work.0 ++ codes " + " ++ spelled (reloads_in charge) ++ codes " x "
    ++ spelled table.brt.0 ++ codes ")"

-- of the task at j, above, in r ticks
abbrev pub task_part : Table → Need → ℕ → ℕ → ℕ → Told
task_part table need i r j =
    sum_part (name_at table j) (product_words table r j (charge_under table need.blocker need.method i j)) (adds_at table need.blocker need.method i r j)

-- its own execution, the blocking, and what each task above adds
abbrev pub need_parts : Table → Need → ℕ → ℕ → List Told
need_parts table need i r =
    sum_part (name_at table i) (codes "its own execution") (at table i).work.0
    ∷ sum_part [] (codes "blocking") need.blocker.lasts.0
    ∷ map (task_part table need i r) (hp i)

-- ---- the sum of an explanation

-- those parts, and the need; none where that is beyond
abbrev pub HasSum : Table → ℕ → Need → Response → Option Sum → Type 0
HasSum table i need (Within R) (Some sum) = (told_parts sum.parts.items ≡ need_parts table need i R.0) × (sum.whole ≡ R.0)
HasSum table i need (Within R) None = ⊥
HasSum table i need Unschedulable (Some sum) = ⊥
HasSum table i need Unschedulable None = Unit {0}

-- of what method m answers for the task at i
abbrev pub ShowsSum : Table → Method → ℕ → Option Sum → Type 0
ShowsSum table m i shown = HasSum table i (need_of table m i) (need_of table m i).time shown

-- the ticks of the parts come to the whole; that is what is needed, and where there is a response, it is the response
pub record AddsUpTo (table : Table) (m : Method) (i : ℕ) (shown : Sum) : Type 0 where
  pub together : sum_by (λ part. part.ticks) shown.parts.items ≡ shown.whole
  pub need : (need_of table m i).time ≡ Within (record { 0 = shown.whole })
  pub response : (R : Ticks) → response_of table m i ≡ Within R → R.0 ≡ shown.whole

-- ---- the words

-- the sum of a need, unless it is beyond
abbrev pub need_sum_text : Table → Need → ℕ → Response → List ℕ
need_sum_text table need i (Within R) = sum_text (need_parts table need i R.0) R.0
need_sum_text table need i Unschedulable = []

-- the sentences and the sum
abbrev pub explanation_words : Table → Method → ℕ → List ℕ
explanation_words table m i = sentences_of table m i ++ need_sum_text table (need_of table m i) i (need_of table m i).time

-- of a method, a table and a position
abbrev pub words_in : Table → Method → ℕ → Result (List ℕ) Refusal
words_in table method p = do
  i ← position_in table p
  Ok (explanation_words table method i)

-- of a method, a text and a position
unfoldable pub words_to : List ℕ → ℕ → ℕ → Result (List ℕ) Refusal
words_to text m p = do
  method ← method_named m
  table ← read_text text
  words_in table method p

-- how it ends: by whether there is a response
abbrev pub ending_explained : List ℕ → ℕ → ℕ → Result Ending Refusal
ending_explained text m p = do
  response ← answer_to text m p
  Ok (ending_of (has_response response))

-- ---- what the parts are handed

-- a need that is in range, what blocks then, and the charges
pub record Grounds (table : Table) (need : Need) (i r : ℕ) (row : List Charge) : Type 0 where
  pub soon : r ≤ LONGEST
  pub blocker : IsBlocker table i need.blocker
  pub charged : ChargedUnder table need.blocker need.method i 0 row

-- a task at j, above i, in r ticks, and its charge
pub record ToldAbove (table : Table) (i j r : ℕ) (charge : Charge) : Type 0 where
  pub above : j < i
  pub soon : r ≤ LONGEST
  pub few : reloads_in charge ≤ 2048
  pub victim : VictimBelow table.count charge
  pub ranged : InRange (term_with table j (reloads_in charge))
