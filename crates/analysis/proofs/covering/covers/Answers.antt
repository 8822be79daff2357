-- `covering::covers` meets its contract.
use Rattle.std.proofs.Common.{ℕ, ap, ◌∙◌, leb}
use Rattle.analysis.proofs.JoinLaws.{row-few}
use Rattle.analysis.proofs.AnswerLaws.{row-handed, demand-by-row}
use Rattle.analysis.proofs.covering.covers.Goals as goal

pub terms-terms-requires : goal.terms-terms-requires
terms-terms-requires c =
    let a = c.args in row-few a.pending.table.now a.access.now a.method a.pending.i c.join.ensures c.args.pending.accepted

pub demand_at-requires : goal.demand_at-requires
demand_at-requires c =
    let a = c.args in
    rw (c.terms-terms.ensures, c.task.ensures) (row-handed a.pending.table.now a.access.now a.method a.pending.i c.args.pending.accepted c.args.pending.held c.requires.2 c.join.ensures a.time.0 c.requires.0)

pub returns : goal.returns
returns c =
    let a = c.args in
    let by_row = demand-by-row a.pending.table.now a.access.now a.method a.pending.i c.args.pending.accepted c.args.pending.held c.requires.2 c.join.ensures in
    ap (λ (n : ℕ). leb n a.time.0) (c.demand_at.ensures ∙ rw (c.terms-terms.ensures, c.task.ensures) (ap (λ (f : ℕ → ℕ). f a.time.0) by_row))
