-- `carried::add_column` meets its contract.
use Rattle.std.proofs.Common.{arith}
use Rattle.cache.proofs.LevelLaws.{heights-none}
use Rattle.analysis.proofs.ColumnLaws.{column-none, ledger-next}
use Rattle.analysis.proofs.carried.add_column.Goals as goal

pub returns : goal.returns
returns c =
    let a = c.args in
    ledger-next a.pending.table.now _ a.pending.i _ (omega (arith, c.args.pending.accepted.few, c.args.pending.held)) c.requires
    (column-none a.pending.table.now a.pending.i _ _ _ _ c.ecbs_down_to-above.ensures
    c.cleared-evicting.ensures c.none-nobody.ensures (heights-none _ 8))
