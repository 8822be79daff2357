-- `one_row::largest_shared` meets its contract.
use Rattle.std.proofs.Common.{ℕ, ◌≡◌, ◌+◌, ap₂, ◌∙◌, arith}
use Rattle.cache.specs.Words.{members}
use Rattle.cache.specs.Counts.{◌on◌, total}
use Rattle.cache.specs.Levels.{counts}
use Rattle.table.specs.declared.tasks.Task.{Task}
use Rattle.analysis.specs.Row.{shared_of}
use Rattle.analysis.proofs.HitLaws.{hit-none, hit-next, hit-passed, largest-from}
use Rattle.analysis.proofs.EvictedLaws.{bound-set}
use Rattle.analysis.proofs.one_row.largest_shared.Goals as goal
use Rattle.analysis.proofs.one_row.largest_shared.Goals.{then-most-bounds, else-most-bounds}

pub loop-k-init : goal.loop-k-init
loop-k-init c = record { most = c.none-most.ensures ∙ hit-none _ (c.args.j + 1); bounded = c.requires.1 }

pub loop-k-preserved : goal.loop-k-preserved
loop-k-preserved c =
    let a = c.args in
    let k = c.loop-k.k in
    let h = c.loop-k.invariant in
    elim c.if-most-bounds.branch [
      | then-most-bounds w ↦
          let own = w.size_in-reloads.ensures.count ∙ ap₂ (λ (n : ℕ) (t : Task). total (counts n t.ucb on members a.ecbs)) w.ways.ensures w.task.ensures in
          rw (w.most-is, w.bounds-is) (record {
            most = w.larger-most.ensures ∙ hit-next (shared_of a.pending.table.now (members a.ecbs)) (a.j + 1) k _ _ (omega arith) h.most own;
            bounded = bound-set h.bounded k _ (omega (arith, c.args.pending.accepted.few, c.args.pending.held)) own;
          })
      | else-most-bounds w ↦ rw (w.most-is, w.bounds-is) (record {
        most = hit-passed (shared_of a.pending.table.now (members a.ecbs)) (a.j + 1) k _ (omega arith) h.most
            (omega (arith, h.bounded.each k (omega (arith, c.args.pending.accepted.few, c.args.pending.held)), w.if-most-bounds.false));
        bounded = h.bounded;
      })
    ]

pub returns : goal.returns
returns c =
    let a = c.args in
    let e : c.loop-k.k ≡ a.pending.i + 1 = omega arith in
    ((rw e at c.loop-k.invariant.most) ∙ largest-from (shared_of a.pending.table.now (members a.ecbs)) (a.j + 1) (a.pending.i + 1) (omega arith), c.loop-k.invariant.bounded)
