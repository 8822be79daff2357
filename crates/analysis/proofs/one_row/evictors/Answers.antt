-- `one_row::evictors` meets its contract.
use Rattle.std.proofs.Common.{refl, ap, ◌∙◌, arith}
use Rattle.cache.specs.Words.{members}
use Rattle.cache.proofs.WordLaws.{members-empty}
use Rattle.table.specs.declared.tasks.Task.{Task}
use Rattle.analysis.specs.Costs.{ecb_of}
use Rattle.analysis.proofs.UnionLaws.{union-none, union-next}
use Rattle.analysis.proofs.OneRowLaws.{evictors-next}
use Rattle.analysis.proofs.one_row.evictors.Goals as goal

pub loop-j-init : goal.loop-j-init
loop-j-init c = record {
  evictors = record { long = refl; each = λ j l. absurd (omega arith) };
  above = members-empty ∙ union-none (ecb_of c.args.pending.table.now) 0;
}

pub loop-j-preserved : goal.loop-j-preserved
loop-j-preserved c =
    let h = c.loop-j.invariant in
    let few = c.args.pending.accepted.few in let held = c.args.pending.held in
    let above = c.union-above.ensures
    ∙ union-next (ecb_of c.args.pending.table.now) 0 c.loop-j.j _ _ (omega arith) h.above (ap (λ (t : Task). members t.ecb) c.task.ensures) in
    record { evictors = evictors-next c.loop-j.j _ (omega arith) h.evictors above; above = above }
