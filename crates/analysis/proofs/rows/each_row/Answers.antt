-- `rows::each_row` meets its contract.
use Rattle.std.proofs.Common.{refl, arith}
use Rattle.search.proofs.FrontLaws.{front-none, front-next}
use Rattle.analysis.specs.Rows.{no_row, row_of}
use Rattle.analysis.proofs.RowLaws.{row-is, left-none, left-next, ledger-none, long-none}
use Rattle.analysis.proofs.rows.each_row.Goals as goal

pub loop-i-init : goal.loop-i-init
loop-i-init c = record {
  ledger = ledger-none _ _ c.requires;
  long = long-none _ refl refl refl refl refl;
  left = left-none _ _ refl;
  rows = front-none no_row (row_of c.args.accepted.table.now);
}

pub loop-i-preserved : goal.loop-i-preserved
loop-i-preserved c =
    let h = c.loop-i.invariant in
    let T = c.args.accepted.table.now in
    let few = c.args.accepted.accepted.few in
    let weighed = rw (c.pending-pending.ensures.table, c.pending-pending.ensures.position) at c.weigh_row.ensures in
    let started = rw (c.pending-pending.ensures.table, c.pending-pending.ensures.position) at c.over_all.ensures.started in
    let answered = rw (c.pending-pending.ensures.table, c.pending-pending.ensures.position) at c.over_all.ensures.answered in
    record {
      ledger = weighed.carried;
      long = weighed.weighed.long;
      left = left-next T c.loop-i.i _ (omega arith) started;
      rows = rw h.rows (front-next no_row (row_of T) c.loop-i.i _ (omega arith) (row-is T c.loop-i.i _ _ answered c.row.ensures));
    }
