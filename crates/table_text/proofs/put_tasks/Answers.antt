-- Each line fits into a draft, and stands behind those before it.
use Rattle.std.proofs.Common.{◌≡◌, ℕ, ◌+◌, ◌++◌, ◌≤◌, List, ap, length, get_or, arith, ◌∙◌, take, flat_map}
use Rattle.std.proofs.Math.Seq.{take_all}
use Rattle.table.specs.Tasks.{blank}
use Rattle.table.specs.Tables.{tasks_of}
use Rattle.writing.proofs.Deliveries.{put-nothing}
use Rattle.table_text.proofs.Lengths.{task_line, task-fits-at, line-room, line-more}
use Rattle.table_text.proofs.put_tasks.Goals as goal

pub write_task-requires-clause-bounds : goal.write_task-requires-clause-bounds
write_task-requires-clause-bounds c = (c.args.accepted.accepted.sets.1, c.args.accepted.accepted.ways.1)

pub write_task-requires-clause-room : goal.write_task-requires-clause-room
write_task-requires-clause-room c =
    let e = c.tasks-task-items.ensures in
    rw (c.new-draft.ensures, e) (omega (arith, task-fits-at c.args.accepted.table.now c.args.accepted.accepted c.loop-task.task-index (rw e at c.loop-task-test.true)))

pub loop-task-init : goal.loop-task-init
loop-task-init c = put-nothing _ _

pub put_at-at-requires : goal.put_at-at-requires
put_at-at-requires c =
    let t = c.args.accepted.table.now in
    let items = c.tasks-task-items.result.now in
    let i = c.loop-task.task-index in
    let is = c.text.ensures ∙ c.write_task.ensures ∙ ap (λ (d : List ℕ). d ++ task_line t.form t.sets (get_or items i blank)) c.new-draft.ensures in
    let room : c.args.from + length (flat_map (task_line t.form t.sets) (tasks_of t)) ≤ length c.loop-task.out = omega (arith, c.requires) in
    line-room (task_line t.form t.sets) blank (tasks_of t) items i c.args.from c.loop-task.at (length c.loop-task.out) c.tasks-task-items.ensures c.loop-task-test.true is
    c.loop-task.invariant.end-is room

pub loop-task-preserved : goal.loop-task-preserved
loop-task-preserved c =
    let t = c.args.accepted.table.now in
    let items = c.tasks-task-items.result.now in
    let i = c.loop-task.task-index in
    let is = c.text.ensures ∙ c.write_task.ensures ∙ ap (λ (d : List ℕ). d ++ task_line t.form t.sets (get_or items i blank)) c.new-draft.ensures in
    line-more (task_line t.form t.sets) blank (tasks_of t) items i c.args.from c.tasks-task-items.ensures c.loop-task-test.true is c.requires c.loop-task.invariant
    c.put_at-at.ensures

pub returns : goal.returns
returns c =
    let t = c.args.accepted.table.now in
    let all : take c.loop-task.task-index (tasks_of t) ≡ tasks_of t = take_all c.loop-task.task-index (tasks_of t) (rw c.tasks-task-items.ensures at c.loop-task-test.false) in
    rw all at c.loop-task.invariant
