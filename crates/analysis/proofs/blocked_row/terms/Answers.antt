-- `blocked_row::terms` meets its contract.
use Rattle.std.proofs.Common.{ℕ, ap, ◌∙◌, arith}
use Rattle.search.specs.Demand.{term_of}
use Rattle.search.proofs.FrontLaws.{front-none, front-next}
use Rattle.analysis.specs.Costs.{term_with}
use Rattle.analysis.specs.BlockedRow.{term_by}
use Rattle.analysis.proofs.blocked_row.terms.Goals as goal

pub loop-j-init : goal.loop-j-init
loop-j-init c = front-none (term_of 0 0 0) _

pub loop-j-preserved : goal.loop-j-preserved
loop-j-preserved c =
    let e = ap (λ (n : ℕ). term_with c.args.pending.table.now c.loop-j.j n) c.count.ensures in
    rw c.loop-j.invariant
    (front-next (term_of 0 0 0) (term_by c.args.pending.table.now c.args.row.now) c.loop-j.j _ (omega (arith, c.args.pending.accepted.few, c.args.pending.held)) (c.term.ensures ∙ e))
