-- By the need that is found.
use Rattle.sentences.proofs.Grounds.{of-need, grounds, adds-up-to}
use Rattle.sentences.proofs.explained.Goals as goal

pub charges-row-requires : goal.charges-row-requires
charges-row-requires c =
    (of-need c.args.pending.table.now c.args.pending.accepted c.args.pending.i c.args.pending.held c.args.method c.explained-need.result c.explained-need.ensures).blocker.blocks.ceiling

pub add_reasons-requires : goal.add_reasons-requires
add_reasons-requires c =
    grounds c.args.pending.table.now c.args.pending.accepted c.args.pending.i c.args.pending.held c.args.method c.explained-need.result c.explained-need.ensures c.in-Within.time c.in-Within.is
    c.charges-row.result c.charges-row.ensures

pub sum_of-requires : goal.sum_of-requires
sum_of-requires c =
    grounds c.args.pending.table.now c.args.pending.accepted c.args.pending.i c.args.pending.held c.args.method c.explained-need.result c.explained-need.ensures c.in-Within.time c.in-Within.is
    c.charges-row.result c.charges-row.ensures

pub returns-clause-adds_up : goal.returns-clause-adds_up
returns-clause-adds_up c =
    adds-up-to c.args.pending.table.now c.args.pending.accepted c.args.pending.i c.args.pending.held c.args.method c.explained-need.result c.explained-need.ensures c.in-Within.time c.in-Within.is
    c.in_ok-sum.sum c.in_ok-sum.ensures.parts c.in_ok-sum.ensures.whole
