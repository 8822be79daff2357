-- A row of charges that an access joins: above its ceiling its UCB is one member more, and from there on nothing changes.
use Rattle.std.proofs.Common.{ℕ, ◌≤◌, ◌<◌, ◌+◌, zero-le, arith, ◌≡◌, refl, sym, ap, ◌∙◌, List, set, get_or-set_other}
use Rattle.table.specs.declared.accesses.Access.{Access}
use Rattle.table.specs.declared.Table.{Table}
use Rattle.analysis.specs.declared.costs.Single.{Single}
use Rattle.analysis.specs.declared.costs.Hit.{Hit}
use Rattle.analysis.specs.declared.costs.Charge.{Charge}
use Rattle.analysis.specs.declared.costs.Charge.TheVariants.{Victim}
use Rattle.analysis.specs.Gather.{hit, larger_of}
use Rattle.analysis.specs.Costs.{no_victim, with_hit, reloads_with, charge_at, charge_under, term_under}
use Rattle.table.specs.Accepted.{AcceptedTable}
use Rattle.analysis.proofs.CostLaws.{under-most, charge-past}
use Rattle.analysis.proofs.OneRowLaws.{tells-front}
use Rattle.analysis.specs.Row.{charge_in, Charged}
use Rattle.analysis.specs.BlockedRow.{ChargedUnder, FewReloads, term_by}

-- from j on the access has joined, and above j the row is as it was
pub record Joined (table : Table) (a : Access) (m : Single) (i j : ℕ) (row : List Charge) : Type 0 where
  pub under : ChargedUnder table a m i j row
  pub rest : (k : ℕ) → k < j → charge_in row k ≡ charge_at table m i k

module _ {table : Table} {a : Access} {m : Single} {i : ℕ} {row : List Charge} where
  -- from the ceiling on a row without the access serves
  pub joined-past : (from : ℕ) → from ≤ i → a.ceiling ≤ from → Charged table m i 0 row → Joined table a m i from row
  joined-past from least h p = record {
    under = record { long = p.long; each = λ j l b. p.each j zero-le b ∙ sym (charge-past table a m i j (omega arith)) };
    rest = λ k l. p.each k zero-le (omega arith);
  }

  -- one more in front
  joined-next : (j : ℕ) → j < 32 → (g : Charge) → g ≡ charge_under table a m i j → Joined table a m i (j + 1) row → Joined table a m i j (set row j g)
  joined-next j few g is p = record {
    under = tells-front i (j + 1) j few refl g is p.under;
    rest = λ k l. get_or-set_other row j k g (no_victim 0) (λ z. omega arith) ∙ p.rest k (omega arith);
  }

-- where the charge without the access is that of a single task, the access is one more that may be hit
pub joined-hit : {table : Table} {a : Access} {m : Single} {i : ℕ} {row : List Charge} (j n : ℕ) → j < 32 → {h : Hit} {g : Charge} → charge_at table m i j ≡ Victim h
    → g ≡ with_hit (charge_in row j) (hit n a.task) → Victim (larger_of h (hit n a.task)) ≡ charge_under table a m i j → Joined table a m i (j + 1) row
    → Joined table a m i j (set row j g)
joined-hit {table} {a} {m} {i} {row} j n few {h} {g} alone is under p =
    joined-next j few g (is ∙ ap (λ (c : Charge). with_hit c (hit n a.task)) (p.rest j (omega arith) ∙ alone) ∙ under) p

-- the counts of such a row are few, and make the terms
module _ (table : Table) (a : Access) (m : Single) (i : ℕ) {row : List Charge} (p : ChargedUnder table a m i 0 row) where
  pub row-few : AcceptedTable table → FewReloads i row
  unfolding reloads_with
  row-few accepted = record {
    long = p.long;
    few = λ j l. rw (p.each j zero-le l) (under-most table a m i j accepted);
  }

  pub row-term : (j : ℕ) → j < i → term_by table row j ≡ term_under table a m i j
  unfolding reloads_with
  row-term j l = rw (p.each j zero-le l) refl
