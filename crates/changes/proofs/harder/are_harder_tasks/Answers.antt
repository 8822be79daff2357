-- The first that is easier.
use Rattle.std.proofs.Common.{sym, ap, ◌∙◌, arith}
use Rattle.table.specs.Tables.{at}
use Rattle.changes.specs.Relations.{is_harder_task}
use Rattle.changes.proofs.Below.{fails_below}
use Rattle.changes.proofs.harder.are_harder_tasks.Goals as goal

pub returns-then-not-is_harder_task : goal.returns-then-not-is_harder_task
returns-then-not-is_harder_task c =
    let first = c.args.first.table.now in
    let second = c.args.second.table.now in
    sym
    (fails_below first.count c.loop-k.k (λ k. is_harder_task c.args.ways (at first k) (at second k)) (omega arith)
    (sym
    (c.if-not-is_harder_task.ensures ∙ ap (λ t. is_harder_task c.args.ways t c.task-in-loop-k.result.now) c.task.ensures
    ∙ ap (λ t. is_harder_task c.args.ways (at first c.loop-k.k) t) c.task-in-loop-k.ensures)))
