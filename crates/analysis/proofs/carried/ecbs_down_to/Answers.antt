-- `carried::ecbs_down_to` meets its contract: one position more at the end of the union in the column above, or of none.
use Rattle.std.proofs.Common.{◌≡◌, ◌+◌, ◌-◌, sym, ap, ◌∙◌, arith}
use Rattle.cache.specs.Words.{members}
use Rattle.cache.proofs.SetLaws.{union-empty}
use Rattle.table.specs.declared.tasks.Task.{Task}
use Rattle.analysis.specs.Costs.{ecb_of}
use Rattle.analysis.proofs.UnionLaws.{union-none, union-next}
use Rattle.analysis.proofs.carried.ecbs_down_to.Goals as goal

pub returns-then-pending-eq0 : goal.returns-then-pending-eq0
returns-then-pending-eq0 c =
    let a = c.args in
    let first : a.pending.i ≡ 0 = omega arith in
    let E = ecb_of a.pending.table.now in
    sym (union-empty _)
    ∙ union-next E 0 a.pending.i _ _ (omega arith) (rw first (union-none E 0)) (ap (λ (t : Task). members t.ecb) c.task.ensures)

pub returns : goal.returns
returns c =
    let a = c.args in
    let last : a.pending.i - 1 + 1 ≡ a.pending.i = omega arith in
    let above = (c.requires.past (a.pending.i - 1) (omega arith)).above in
    c.union.ensures
    ∙ union-next (ecb_of a.pending.table.now) 0 a.pending.i _ _ (omega arith) (rw last at above) (ap (λ (t : Task). members t.ecb) c.task.ensures)
