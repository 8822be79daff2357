-- `rows::over_all` meets its contract.
use Rattle.std.proofs.Common.{refl, arith}
use Rattle.analysis.proofs.BlockerLaws.{plain-blocks}
use Rattle.analysis.proofs.RowLaws.{plain-handed, plain-first, plain-left, rising-first, weighed-plain, plain-longer, passed-first, passed-next, passed-all, answered-plain}
use Rattle.analysis.proofs.rows.over_all.Goals as goal

pub by_row-requires-clause-weighed : goal.by_row-requires-clause-weighed
by_row-requires-clause-weighed c = weighed-plain _ _ _ _ refl c.requires.weighed

pub by_row-requires-clause-blocks : goal.by_row-requires-clause-blocks
by_row-requires-clause-blocks c = plain-blocks c.args.pending.i

pub by_row-requires-clause-started : goal.by_row-requires-clause-started
by_row-requires-clause-started c =
    plain-longer c.args.pending.table.now c.args.pending.i _ _ c.args.pending.accepted c.args.pending.held (omega arith) c.requires.started

pub by_row-requires-clause-rising : goal.by_row-requires-clause-rising
by_row-requires-clause-rising c = rising-first

pub returns-then-pending-eq0-clause-answered : goal.returns-then-pending-eq0-clause-answered
returns-then-pending-eq0-clause-answered c =
    answered-plain c.args.pending.table.now c.args.pending.i c.args.pending.accepted c.args.pending.held (omega arith) c.by_row.ensures.with_one

pub least-requires : goal.least-requires
least-requires c =
    let a = c.args in
    (rw (c.task-task.ensures, c.limit-limit.ensures) (plain-handed a.pending.table.now a.pending.i c.args.pending.accepted c.args.pending.held a.terms.now c.requires.weighed), rw c.task-task.ensures (plain-first a.pending.table.now a.pending.i c.args.pending.accepted c.args.pending.held a.terms.now c.requires.weighed c.requires.started))

pub loop-access-init : goal.loop-access-init
loop-access-init c =
    rw c.into_iter-access-iterator.ensures.into_iter_gives (passed-first c.args.pending.table.now c.args.pending.i c.args.pending.accepted c.args.pending.held c.of-access-items.ensures)

pub under-latest-requires-clause-blocks : goal.under-latest-requires-clause-blocks
under-latest-requires-clause-blocks c = let p = rw c.in-Some.ensures.steps at c.loop-access.invariant in p.block.0

pub under-latest-requires-clause-rising : goal.under-latest-requires-clause-rising
under-latest-requires-clause-rising c = c.loop-access.invariant.rising

pub under-latest-requires-clause-started : goal.under-latest-requires-clause-started
under-latest-requires-clause-started c =
    let a = c.args in
    plain-longer a.pending.table.now a.pending.i _ _ c.args.pending.accepted c.args.pending.held (omega arith)
    (plain-left a.pending.table.now a.pending.i c.args.pending.accepted c.args.pending.held a.terms.now c.requires.weighed (rw c.task-task.ensures at c.least.ensures.started))

pub loop-access-preserved : goal.loop-access-preserved
loop-access-preserved c =
    let p = rw c.in-Some.ensures.steps at c.loop-access.invariant in
    passed-next c.args.pending.table.now c.args.pending.i c.args.pending.accepted c.args.pending.held _ _ p c.under-latest.ensures

pub returns-clause-answered : goal.returns-clause-answered
returns-clause-answered c =
    passed-all c.args.pending.table.now c.args.pending.i c.args.pending.accepted c.args.pending.held (rw c.in-None.ensures.steps.0 at c.loop-access.invariant)

pub returns-clause-started : goal.returns-clause-started
returns-clause-started c =
    let a = c.args in
    plain-left a.pending.table.now a.pending.i c.args.pending.accepted c.args.pending.held a.terms.now c.requires.weighed (rw c.task-task.ensures at c.least.ensures.started)
