-- `rows::carry_on` meets its contract.
use Rattle.std.proofs.Common.{◌≡◌, ◌+◌, ◌-◌, ap, ◌∙◌, arith}
use Rattle.search.specs.Counts.{once}
use Rattle.analysis.proofs.RowLaws.{plain-ranged, carried_on}
use Rattle.analysis.proofs.rows.carry_on.Goals as goal

pub once-requires : goal.once-requires
once-requires c =
    let a = c.args in
    rw c.term.ensures (plain-ranged a.pending.table.now a.pending.i c.args.pending.accepted c.args.pending.held (a.pending.i - 1) (omega arith)).jitter

pub returns : goal.returns
returns c =
    let a = c.args in
    let last : a.pending.i ≡ a.pending.i - 1 + 1 = omega arith in
    carried_on a.pending.table.now a.pending.i c.args.pending.accepted c.args.pending.held a.counts.now _ (a.pending.i - 1) last (c.once.ensures ∙ ap once c.term.ensures) c.requires.left
