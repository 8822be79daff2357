-- Each line fits into a draft, and stands behind those before it.
use Rattle.std.proofs.Common.{◌≡◌, ℕ, ◌+◌, ◌++◌, ◌≤◌, List, ap, length, get_or, arith, ◌∙◌, take, flat_map}
use Rattle.std.proofs.Math.Seq.{take_all}
use Rattle.table.specs.Accesses.{blank_access}
use Rattle.table.specs.Tables.{tasks_of, accesses_of}
use Rattle.writing.proofs.Deliveries.{put-nothing}
use Rattle.table_text.proofs.Lengths.{access_line, access-fits-at, line-room, line-more, accesses-known}
use Rattle.table_text.proofs.put_accesses.Goals as goal

pub write_access-requires-clause-bounds : goal.write_access-requires-clause-bounds
write_access-requires-clause-bounds c = (c.args.accepted.accepted.sets.1, c.args.accepted.accepted.ways.1)

pub write_access-requires-clause-task : goal.write_access-requires-clause-task
write_access-requires-clause-task c =
    rw c.accesses-access-items.ensures (accesses-known c.args.accepted.table.now c.args.accepted.accepted c.loop-access.access-index (rw c.accesses-access-items.ensures at c.loop-access-test.true)).0

pub write_access-requires-clause-ceiling : goal.write_access-requires-clause-ceiling
write_access-requires-clause-ceiling c =
    rw c.accesses-access-items.ensures (accesses-known c.args.accepted.table.now c.args.accepted.accepted c.loop-access.access-index (rw c.accesses-access-items.ensures at c.loop-access-test.true)).1

pub write_access-requires-clause-room : goal.write_access-requires-clause-room
write_access-requires-clause-room c =
    let e = c.accesses-access-items.ensures in
    rw (c.new-draft.ensures, e) (omega (arith, access-fits-at c.args.accepted.table.now c.args.accepted.accepted c.loop-access.access-index (rw e at c.loop-access-test.true)))

pub loop-access-init : goal.loop-access-init
loop-access-init c = put-nothing _ _

pub put_at-at-requires : goal.put_at-at-requires
put_at-at-requires c =
    let t = c.args.accepted.table.now in
    let items = c.accesses-access-items.result.now in
    let i = c.loop-access.access-index in
    let is = c.text.ensures ∙ c.write_access.ensures ∙ ap (λ (d : List ℕ). d ++ access_line t.form t.sets (tasks_of t) (get_or items i blank_access)) c.new-draft.ensures in
    let room : c.args.from + length (flat_map (access_line t.form t.sets (tasks_of t)) (accesses_of t)) ≤ length c.loop-access.out = omega (arith, c.requires) in
    line-room (access_line t.form t.sets (tasks_of t)) blank_access (accesses_of t) items i c.args.from c.loop-access.at (length c.loop-access.out) c.accesses-access-items.ensures c.loop-access-test.true is
    c.loop-access.invariant.end-is room

pub loop-access-preserved : goal.loop-access-preserved
loop-access-preserved c =
    let t = c.args.accepted.table.now in
    let items = c.accesses-access-items.result.now in
    let i = c.loop-access.access-index in
    let is = c.text.ensures ∙ c.write_access.ensures ∙ ap (λ (d : List ℕ). d ++ access_line t.form t.sets (tasks_of t) (get_or items i blank_access)) c.new-draft.ensures in
    line-more (access_line t.form t.sets (tasks_of t)) blank_access (accesses_of t) items i c.args.from c.accesses-access-items.ensures c.loop-access-test.true is c.requires c.loop-access.invariant
    c.put_at-at.ensures

pub returns : goal.returns
returns c =
    let t = c.args.accepted.table.now in
    let all : take c.loop-access.access-index (accesses_of t) ≡ accesses_of t = take_all c.loop-access.access-index (accesses_of t) (rw c.accesses-access-items.ensures at c.loop-access-test.false) in
    rw all at c.loop-access.invariant
