-- `laws::figures::charge` meets its contract.
use Rattle.std.proofs.Common.{arith, zero-le}
use Rattle.laws.proofs.FigureLaws.{charge-figured}
use Rattle.laws.proofs.figures.charge.Goals as goal

pub bounds-row-j : goal.bounds-row-j
bounds-row-j c = omega (arith, c.args.pending.accepted.few)

pub returns : goal.returns
returns c =
    let a = c.args in
    let is = c.join.ensures.each a.j zero-le c.requires in
    record { value = is; figure = charge-figured a.pending.table.now a.method a.pending.i a.j _ is }
