-- The ticks of a replay as lines: which task runs in each.
use Rattle.std.specs.Prelude.{ℕ, zero, suc, ◌-◌, ◌≤◌, min, List, [], ◌∷◌, ◌++◌, length, Option, Some, None, Result, codes}
use Rattle.table.specs.Tasks.{name_text}
use Rattle.texts.specs.declared.refusals.Refusal.{Refusal}
use Rattle.table.specs.declared.Table.{Table}
use Rattle.table.specs.Tables.{tasks_of, at}
use Rattle.writing.specs.Text.{spelled, line_of}
use Rattle.writing.specs.Delivery.{DeliversText}
use Rattle.replay.specs.declared.TheConstants.{LONGEST_REPLAY}
use Rattle.replay.specs.declared.ticks.TheConstants.{PAGE, LONGEST_PAGE}
use Rattle.replay.specs.Replay.{runs_at}

-- the name of the task at a position, or `-` where no task runs
abbrev pub runner_text : Table → Option ℕ → List ℕ
runner_text table (Some k) = name_text (at table k).name
runner_text table None = codes "-"

-- the line of tick t: the tick, and the name of the task that runs
unfoldable pub tick_line : Table → ℕ → Option ℕ → List ℕ
tick_line table t runs = line_of (spelled t) (runner_text table runs ∷ [])

-- the lines of the n ticks from t on
unfoldable pub tick_lines : Table → ℕ → ℕ → List ℕ
tick_lines table t zero = []
tick_lines table t (suc n) = tick_line table t (runs_at (tasks_of table) t) ++ tick_lines table (suc t) n

-- a page: the hundred ticks from a tick on, as far as a replay goes
unfoldable pub page_of : Table → ℕ → List ℕ
page_of table from = tick_lines table from (min PAGE (LONGEST_REPLAY - from))

-- a page that is written
pub record DeliversPage (table : Table) (from : ℕ) (before : List ℕ) (answer : Result ℕ Refusal) (after : List ℕ) : Type 0 where
  pub delivered : DeliversText (page_of table from) before answer after
  pub short : length (page_of table from) ≤ LONGEST_PAGE
