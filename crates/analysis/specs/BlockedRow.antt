-- One row while an access blocks: what each task above i is charged and asks for.
use Rattle.std.specs.Prelude.{ℕ, ◌≤◌, ◌<◌, List, length, ◌≡◌}
use Rattle.search.specs.declared.demand.Term.{Term}
use Rattle.table.specs.declared.accesses.Access.{Access}
use Rattle.table.specs.declared.Table.{Table}
use Rattle.analysis.specs.declared.costs.Single.{Single}
use Rattle.analysis.specs.declared.costs.Charge.{Charge}
use Rattle.analysis.specs.Costs.{reloads_in, charge_under, term_with}
use Rattle.analysis.specs.Row.{charge_in, HoldsCharges}

-- a list that has the charges from the position `from` on, while the access blocks i
abbrev pub ChargedUnder : Table → Access → Single → ℕ → ℕ → List Charge → Type 0
ChargedUnder table a m i = HoldsCharges (charge_under table a m i) i

-- a row whose counts a product by the block reload time may have
pub record FewReloads (i : ℕ) (row : List Charge) : Type 0 where
  pub long : length row ≡ 32
  pub few : (j : ℕ) → j < i → reloads_in (charge_in row j) ≤ 2048

-- what the task at j asks for, by the charge in a row
abbrev pub term_by : Table → List Charge → ℕ → Term
term_by table row j = term_with table j (reloads_in (charge_in row j))
