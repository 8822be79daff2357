-- `need::begin_with` meets its contract.
use Rattle.std.proofs.Common.{sym, ◌∙◌}
use Rattle.search.proofs.LaterLaws.{later_first}
use Rattle.table.specs.Tables.{accesses_of, access_at}
use Rattle.analysis.proofs.BlockerLaws.{among-all, access-blocks}
use Rattle.analysis.proofs.need.begin_with.Goals as goal

pub need_while-time-requires : goal.need_while-time-requires
need_while-time-requires c =
    let a = c.args in
    (c.requires.0, rw c.accesses-accesses.ensures (access-blocks a.pending.table.now a.pending.i c.args.pending.accepted a.longest c.requires.1))

pub loop-init : goal.loop-init
unfolding access_at
loop-init c = (c.requires.1, rw c.accesses-accesses.ensures at c.need_while-time.ensures ∙ later_first _)

pub need_while-requires : goal.need_while-requires
need_while-requires c =
    let a = c.args in
    let here = rw c.accesses-accesses.ensures at c.in-Some.ensures in
    (c.requires.0, rw c.accesses-accesses.ensures (access-blocks a.pending.table.now a.pending.i c.args.pending.accepted c.in-Some.next (among-all (accesses_of a.pending.table.now) a.pending.i c.loop.start.at c.in-Some.next here)))

pub loop-preserved : goal.loop-preserved
unfolding access_at
loop-preserved c =
    let a = c.args in
    let here = rw c.accesses-accesses.ensures at c.in-Some.ensures in
    let none = rw c.accesses-accesses.ensures at c.need_while.ensures in (
      among-all (accesses_of a.pending.table.now) a.pending.i c.loop.start.at c.in-Some.next here,
      c.in-Unschedulable.is ∙ sym c.in-Unschedulable-need_while.is ∙ none ∙ later_first _,
    )
