-- The time is C, with what is charged for the tasks so far.
use Rattle.std.proofs.Common.{◌≡◌, ◌+◌, ◌*◌, ◌≤◌, take}
use Rattle.std.specs.List.{sum_by}
use Rattle.table.specs.Tables.{tasks_of, at}
use Rattle.edf.specs.Charges.{edf_charge}
use Rattle.edf.proofs.charges.charged.Given as goal

abbrev pub invariant-loop-other : goal.invariant-loop-other
invariant-loop-other l = record {
  is : l.time ≡ (at l.pending.table.now l.pending.i).work.0 + sum_by (edf_charge l.pending.table.now (at l.pending.table.now l.pending.i)) (take l.other-index (tasks_of l.pending.table.now));
  few : l.time ≤ 250000000 + l.other-index * 51200000000000000;
}
