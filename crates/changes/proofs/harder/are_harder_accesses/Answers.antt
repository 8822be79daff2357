-- The first that is easier.
use Rattle.std.proofs.Common.{sym, ap, ◌∙◌, arith}
use Rattle.table.specs.Tables.{access_at}
use Rattle.changes.specs.Relations.{is_harder_access}
use Rattle.changes.proofs.Below.{fails_below}
use Rattle.changes.proofs.harder.are_harder_accesses.Goals as goal

pub returns-then-not-is_harder_access : goal.returns-then-not-is_harder_access
returns-then-not-is_harder_access c =
    let first = c.args.first.table.now in
    let second = c.args.second.table.now in
    sym
    (fails_below first.access_count c.loop-n.n (λ k. is_harder_access c.args.ways (access_at first k) (access_at second k)) (omega arith)
    (sym
    (c.if-not-is_harder_access.ensures ∙ ap (λ t. is_harder_access c.args.ways t c.access-in-loop-n.result.now) c.access.ensures
    ∙ ap (λ t. is_harder_access c.args.ways (access_at first c.loop-n.n) t) c.access-in-loop-n.ensures)))
