-- When a time covers the demand of a task.
use Rattle.std.specs.Prelude.{ℕ, Bool, nat_le}
use Rattle.std.specs.List.{list_all}
use Rattle.table.specs.declared.accesses.Access.{Access}
use Rattle.table.specs.declared.Table.{Table}
use Rattle.analysis.specs.declared.costs.Single.{Single}
use Rattle.analysis.specs.Analysis.{blockers_of}
use Rattle.analysis.specs.Responses.{demand_while}

-- while an access blocks the task: the demand at R is no larger than R
abbrev pub covers : Table → Single → ℕ → ℕ → Access → Bool
covers table m i R a = nat_le (demand_while table m i a R) R

-- for every access that may block the task, or for none where none may
unfoldable pub is_covered : Table → Single → ℕ → ℕ → Bool
is_covered table m i R = list_all (covers table m i R) (blockers_of table i)
