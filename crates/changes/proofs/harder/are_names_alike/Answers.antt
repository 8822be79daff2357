-- The first that has another name.
use Rattle.std.proofs.Common.{sym, ap, ◌∙◌, arith}
use Rattle.table.specs.Tables.{at}
use Rattle.changes.specs.Relations.{is_named_alike}
use Rattle.changes.proofs.Below.{fails_below}
use Rattle.changes.proofs.harder.are_names_alike.Goals as goal

pub returns-then-not-is_named_alike : goal.returns-then-not-is_named_alike
returns-then-not-is_named_alike c =
    let first = c.args.first.table.now in
    let second = c.args.second.table.now in
    sym
    (fails_below first.count c.loop-k.k (λ k. is_named_alike (at first k) (at second k)) (omega arith)
    (sym
    (c.if-not-is_named_alike.ensures ∙ ap (λ t. is_named_alike t c.task-in-loop-k.result.now) c.task.ensures
    ∙ ap (λ t. is_named_alike (at first c.loop-k.k) t) c.task-in-loop-k.ensures)))
