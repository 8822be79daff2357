-- `need::need_under` meets its contract.
use Rattle.std.proofs.Common.{◌≡◌, ◌+◌, ◌-◌, ◌<◌, length, sym, ◌∙◌, arith}
use Rattle.search.proofs.LaterLaws.{later_first}
use Rattle.table.specs.Tables.{accesses_of}
use Rattle.analysis.proofs.BlockerLaws.{rest-of, access-blocks}
use Rattle.analysis.proofs.NeedLaws.{none-needed, before-begun, before-none, before-taken, before-kept, behind-begun}
use Rattle.analysis.proofs.need.need_under.Goals as goal

pub returns-in_default : goal.returns-in_default
returns-in_default c =
    let a = c.args in
    rw (c.need_while.ensures ∙ later_first _) (none-needed a.pending.table.now a.method a.pending.i (rw c.accesses-accesses.ensures at c.in_default.ensures))

pub loop-n-init : goal.loop-n-init
loop-n-init c =
    let a = c.args in
    rw c.accesses-accesses.ensures (before-begun a.pending.table.now a.method a.pending.i c.begin_with-start.ensures.0 c.begin_with-start.ensures.1)

pub need_while-own-requires : goal.need_while-own-requires
need_while-own-requires c =
    let a = c.args in
    let n = c.loop-n.n - 1 in
    let few : n < length (accesses_of a.pending.table.now) = omega (arith, c.begin_with-start.ensures.0.0) in
    let yes = rw c.accesses-accesses.ensures at (sym c.if-may_block.ensures) in
    (c.charged-row.ensures, rw c.accesses-accesses.ensures (access-blocks a.pending.table.now a.pending.i c.args.pending.accepted n (few, yes)))

pub loop-n-preserved-then-no_less : goal.loop-n-preserved-then-no_less
loop-n-preserved-then-no_less c =
    let a = c.args in
    let n = c.loop-n.n - 1 in
    let last : n + 1 ≡ c.loop-n.n = omega arith in
    let few : n < length (accesses_of a.pending.table.now) = omega (arith, c.begin_with-start.ensures.0.0) in
    let yes = rw c.accesses-accesses.ensures at (sym c.if-may_block.ensures) in
    let own = rw (c.just_before.ensures, c.accesses-accesses.ensures) at c.need_while-own.ensures in
    rw c.accesses-accesses.ensures
    (before-taken a.pending.table.now a.method a.pending.i few (rw (← last) at c.loop-n.invariant) yes c.begin_with-start.result.known own (sym c.is_sooner-no_less.ensures ∙ c.if-no_less.true))

pub loop-n-preserved-else-no_less : goal.loop-n-preserved-else-no_less
loop-n-preserved-else-no_less c =
    let a = c.args in
    let n = c.loop-n.n - 1 in
    let last : n + 1 ≡ c.loop-n.n = omega arith in
    let few : n < length (accesses_of a.pending.table.now) = omega (arith, c.begin_with-start.ensures.0.0) in
    let yes = rw c.accesses-accesses.ensures at (sym c.if-may_block.ensures) in
    let own = rw (c.just_before.ensures, c.accesses-accesses.ensures) at c.need_while-own.ensures in
    before-kept a.pending.table.now a.method a.pending.i few (rw (← last) at c.loop-n.invariant) yes c.begin_with-start.result.known own (sym c.is_sooner-no_less.ensures ∙ c.if-no_less.false)

pub loop-n-preserved : goal.loop-n-preserved
loop-n-preserved c =
    let a = c.args in
    let n = c.loop-n.n - 1 in
    let last : n + 1 ≡ c.loop-n.n = omega arith in
    let few : n < length (accesses_of a.pending.table.now) = omega (arith, c.begin_with-start.ensures.0.0) in
    before-none a.pending.table.now a.method a.pending.i few (rw (← last) at c.loop-n.invariant) (rw c.accesses-accesses.ensures at (sym c.if-may_block.ensures))

pub loop-access-init : goal.loop-access-init
loop-access-init c =
    let a = c.args in
    let e : c.loop-n.n ≡ 0 = omega arith in
    rw (c.into_iter-access-iterator.ensures.into_iter_gives, c.of-access-items.ensures, c.accesses-accesses.ensures, rest-of (accesses_of a.pending.table.now) (c.begin_with-start.result.at + 1))
    (behind-begun a.pending.table.now a.method a.pending.i c.args.pending.accepted c.begin_with-start.ensures.0 (rw e at c.loop-n.invariant))
