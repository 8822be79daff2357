-- `one_row::ecb_only`: the charges from j on are in the row.
use Rattle.analysis.specs.declared.costs.Single.TheVariants.{EcbOnly}
use Rattle.analysis.specs.Row.{Charged}
use Rattle.analysis.proofs.one_row.ecb_only.Given as goal

abbrev pub invariant-loop-j : goal.invariant-loop-j
invariant-loop-j l = Charged l.pending.table.now EcbOnly l.pending.i l.j l.row
