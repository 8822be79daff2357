-- `rows::by_row` meets its contract: each search goes on from a cheaper one.
use Rattle.analysis.specs.declared.costs.Single.TheVariants.{None, EcbOnly, UcbOnly, UcbUnion, EcbUnion}
use Rattle.analysis.proofs.RowLaws.{row-handed, first, next, left, dearer, with-one}
use Rattle.analysis.proofs.rows.by_row.Goals as goal

pub search-none-requires-clause-handed : goal.search-none-requires-clause-handed
search-none-requires-clause-handed c = rw (c.task-task.ensures, c.limit-limit.ensures) (row-handed c.args.pending.table.now c.args.access.now c.args.pending.i c.args.pending.accepted c.args.pending.held c.requires.blocks c.args.terms.now c.requires.weighed None)

pub search-none-requires-clause-started : goal.search-none-requires-clause-started
search-none-requires-clause-started c = rw c.task-task.ensures (first c.args.pending.table.now c.args.access.now c.args.pending.i c.args.pending.accepted c.args.pending.held c.requires.blocks c.args.terms.now c.requires.weighed c.requires.started)

pub search-ucb_union-requires-clause-handed : goal.search-ucb_union-requires-clause-handed
search-ucb_union-requires-clause-handed c = rw (c.task-task.ensures, c.limit-limit.ensures) (row-handed c.args.pending.table.now c.args.access.now c.args.pending.i c.args.pending.accepted c.args.pending.held c.requires.blocks c.args.terms.now c.requires.weighed UcbUnion)

pub search-ucb_union-requires-clause-started : goal.search-ucb_union-requires-clause-started
search-ucb_union-requires-clause-started c = rw c.task-task.ensures (next c.args.pending.table.now c.args.access.now c.args.pending.i c.args.pending.accepted c.args.pending.held c.requires.blocks c.args.terms.now c.requires.weighed UcbUnion (rw c.task-task.ensures at c.search-none.ensures.started))

pub search-ucb_union-requires-clause-dearer : goal.search-ucb_union-requires-clause-dearer
search-ucb_union-requires-clause-dearer c =
    rw (c.task-task.ensures, c.limit-limit.ensures) (dearer c.args.pending.table.now c.args.access.now c.args.pending.i c.args.pending.accepted c.args.pending.held c.requires.blocks c.args.terms.now c.requires.weighed c.args.so_far c.requires.rising UcbUnion _ (rw (c.task-task.ensures, c.limit-limit.ensures) at c.search-none.ensures.answer))

pub search-ecb_only-requires-clause-handed : goal.search-ecb_only-requires-clause-handed
search-ecb_only-requires-clause-handed c = rw (c.task-task.ensures, c.limit-limit.ensures) (row-handed c.args.pending.table.now c.args.access.now c.args.pending.i c.args.pending.accepted c.args.pending.held c.requires.blocks c.args.terms.now c.requires.weighed EcbOnly)

pub search-ecb_only-requires-clause-started : goal.search-ecb_only-requires-clause-started
search-ecb_only-requires-clause-started c = rw c.task-task.ensures (next c.args.pending.table.now c.args.access.now c.args.pending.i c.args.pending.accepted c.args.pending.held c.requires.blocks c.args.terms.now c.requires.weighed EcbOnly (rw c.task-task.ensures at c.search-ucb_union.ensures.started))

pub search-ecb_only-requires-clause-dearer : goal.search-ecb_only-requires-clause-dearer
search-ecb_only-requires-clause-dearer c =
    rw (c.task-task.ensures, c.limit-limit.ensures) (dearer c.args.pending.table.now c.args.access.now c.args.pending.i c.args.pending.accepted c.args.pending.held c.requires.blocks c.args.terms.now c.requires.weighed c.args.so_far c.requires.rising EcbOnly _ (rw (c.task-task.ensures, c.limit-limit.ensures) at c.search-ucb_union.ensures.answer))

pub search-ecb_union-requires-clause-handed : goal.search-ecb_union-requires-clause-handed
search-ecb_union-requires-clause-handed c = rw (c.task-task.ensures, c.limit-limit.ensures) (row-handed c.args.pending.table.now c.args.access.now c.args.pending.i c.args.pending.accepted c.args.pending.held c.requires.blocks c.args.terms.now c.requires.weighed EcbUnion)

pub search-ecb_union-requires-clause-started : goal.search-ecb_union-requires-clause-started
search-ecb_union-requires-clause-started c = rw c.task-task.ensures (next c.args.pending.table.now c.args.access.now c.args.pending.i c.args.pending.accepted c.args.pending.held c.requires.blocks c.args.terms.now c.requires.weighed EcbUnion (rw c.task-task.ensures at c.search-none.ensures.started))

pub search-ecb_union-requires-clause-dearer : goal.search-ecb_union-requires-clause-dearer
search-ecb_union-requires-clause-dearer c =
    rw (c.task-task.ensures, c.limit-limit.ensures) (dearer c.args.pending.table.now c.args.access.now c.args.pending.i c.args.pending.accepted c.args.pending.held c.requires.blocks c.args.terms.now c.requires.weighed c.args.so_far c.requires.rising EcbUnion _ (rw (c.task-task.ensures, c.limit-limit.ensures) at c.search-none.ensures.answer))

pub search-ucb_only-requires-clause-handed : goal.search-ucb_only-requires-clause-handed
search-ucb_only-requires-clause-handed c = rw (c.task-task.ensures, c.limit-limit.ensures) (row-handed c.args.pending.table.now c.args.access.now c.args.pending.i c.args.pending.accepted c.args.pending.held c.requires.blocks c.args.terms.now c.requires.weighed UcbOnly)

pub search-ucb_only-requires-clause-started : goal.search-ucb_only-requires-clause-started
search-ucb_only-requires-clause-started c = rw c.task-task.ensures (next c.args.pending.table.now c.args.access.now c.args.pending.i c.args.pending.accepted c.args.pending.held c.requires.blocks c.args.terms.now c.requires.weighed UcbOnly (rw c.task-task.ensures at c.search-ecb_union.ensures.started))

pub search-ucb_only-requires-clause-dearer : goal.search-ucb_only-requires-clause-dearer
search-ucb_only-requires-clause-dearer c =
    rw (c.task-task.ensures, c.limit-limit.ensures) (dearer c.args.pending.table.now c.args.access.now c.args.pending.i c.args.pending.accepted c.args.pending.held c.requires.blocks c.args.terms.now c.requires.weighed c.args.so_far c.requires.rising UcbOnly _ (rw (c.task-task.ensures, c.limit-limit.ensures) at c.search-ecb_union.ensures.answer))

pub returns-clause-with_one : goal.returns-clause-with_one
returns-clause-with_one c =
    with-one c.args.pending.table.now c.args.access.now c.args.pending.i c.args.pending.accepted c.args.pending.held c.requires.blocks c.args.terms.now c.requires.weighed c.args.so_far c.requires.rising _
    (rw (c.task-task.ensures, c.limit-limit.ensures) at c.search-none.ensures.answer) (rw (c.task-task.ensures, c.limit-limit.ensures) at c.search-ecb_only.ensures.answer) (rw (c.task-task.ensures, c.limit-limit.ensures) at c.search-ucb_only.ensures.answer)
    (rw (c.task-task.ensures, c.limit-limit.ensures) at c.search-ucb_union.ensures.answer) (rw (c.task-task.ensures, c.limit-limit.ensures) at c.search-ecb_union.ensures.answer)

pub returns-clause-started : goal.returns-clause-started
returns-clause-started c = left c.args.pending.table.now c.args.access.now c.args.pending.i c.args.pending.accepted c.args.pending.held c.requires.blocks c.args.terms.now c.requires.weighed (rw c.task-task.ensures at c.search-none.ensures.started)
