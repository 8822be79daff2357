-- What is used of the tasks above, from the grounds of a need.
use Rattle.std.proofs.Common.{◌≡◌, ℕ, ◌<◌, ◌≤◌, zero-le, arith, List}
use Rattle.search.specs.Terms.{InRange}
use Rattle.table.specs.Accesses.{added_by}
use Rattle.table.specs.declared.Table.{Table}
use Rattle.table.specs.declared.accesses.Access.{Access}
use Rattle.table.specs.Tables.{ways_in}
use Rattle.table.specs.Accepted.{AcceptedTable}
use Rattle.analysis.specs.declared.costs.Single.{Single}
use Rattle.analysis.specs.declared.costs.Charge.{Charge}
use Rattle.analysis.specs.Costs.{reloads_in, reloads_with, charge_under, term_with, ucb_of, ecb_of}
use Rattle.analysis.specs.Row.{charge_in}
use Rattle.analysis.specs.declared.need.Need.{Need}
use Rattle.analysis.proofs.CostLaws.{under-most}
use Rattle.analysis.proofs.OrderLaws.{term-ranged}
use Rattle.report.proofs.ExplanationParts.{victim-below}
use Rattle.sentences.specs.Explained.{Grounds, ToldAbove}

few-reloads : (table : Table) (a : Access) (m : Single) (i j : ℕ) → AcceptedTable table → reloads_in (charge_under table a m i j) ≤ 2048
unfolding reloads_with
few-reloads table a m i j accepted = under-most table a m i j accepted

in-range : (table : Table) (a : Access) (m : Single) (i j : ℕ) → AcceptedTable table → j < table.count → InRange (term_with table j (reloads_in (charge_under table a m i j)))
unfolding reloads_with
in-range table a m i j accepted held = term-ranged table a m i j accepted held

module _ (table : Table) (accepted : AcceptedTable table) (need : Need) (i : ℕ) (held : i < table.count) (r : ℕ) (row : List Charge) (g : Grounds table need i r row)
    (j : ℕ) (above : j < i) where
  pub charge-is : charge_in row j ≡ charge_under table need.blocker need.method i j
  charge-is = g.charged.each j zero-le above

  pub told-above : ToldAbove table i j r (charge_in row j)
  told-above = record {
    above = above;
    soon = g.soon;
    few = rw charge-is (few-reloads table need.blocker need.method i j accepted);
    victim =
        rw charge-is
        (victim-below (ways_in table) (ucb_of table) (ecb_of table) (added_by (ways_in table) need.blocker j) need.blocker.task table.count need.method i j above held g.blocker.task);
    ranged = rw charge-is (in-range table need.blocker need.method i j accepted (omega arith));
  }
