-- `blocked_row::shared_with` meets its contract.
use Rattle.std.proofs.Common.{sym, ap, ◌∙◌, arith}
use Rattle.cache.specs.Words.{members}
use Rattle.cache.specs.Counts.{Counts, nothing, ◌⊕◌, capped, ◌on◌, total}
use Rattle.cache.specs.Levels.{counts}
use Rattle.cache.proofs.CountLaws.{add_comm, nothing-add, capped-within}
use Rattle.table.proofs.AddedLaws.{added-above, added_none}
use Rattle.analysis.proofs.CostLaws.{counts-few}
use Rattle.analysis.proofs.blocked_row.shared_with.Goals as goal

pub returns-then-j-access : goal.returns-then-j-access
returns-then-j-access c =
    let a = c.args in
    c.size_in.ensures.count
    ∙ ap (λ (U : Counts). total (U on members a.ecb))
    (c.join.ensures ∙ ap (λ (X : Counts). capped a.ways (counts a.ways a.all.now ⊕ X)) (sym (added-above a.ways a.access.now a.j (omega arith))))

pub returns : goal.returns
returns c =
    let a = c.args in
    c.size_in-2.ensures.count
    ∙ ap (λ (U : Counts). total (U on members a.ecb))
    (sym (
    ap (λ (X : Counts). capped a.ways (counts a.ways a.all.now ⊕ X)) (added_none a.ways a.access.now a.j (omega arith))
    ∙ ap (capped a.ways) (add_comm (counts a.ways a.all.now) nothing ∙ nothing-add (counts a.ways a.all.now))
    ∙ capped-within a.ways (counts a.ways a.all.now) (counts-few a.ways a.all.now)))
