-- `one_row::ucb_only` meets its contract.
use Rattle.std.proofs.Common.{ℕ, ◌≡◌, ◌+◌, ◌-◌, sym, ap, ap₂, ◌∙◌, arith}
use Rattle.cache.specs.Counts.{total}
use Rattle.cache.specs.Levels.{counts}
use Rattle.search.specs.Positions.{between}
use Rattle.table.specs.declared.tasks.Task.{Task}
use Rattle.analysis.specs.declared.costs.Charge.TheVariants.{Victim}
use Rattle.analysis.specs.Gather.{largest_from}
use Rattle.analysis.specs.Costs.{ucb_of}
use Rattle.analysis.proofs.CostLaws.{largest-ucb}
use Rattle.analysis.proofs.HitLaws.{hit-none, hit-front, largest-from}
use Rattle.analysis.proofs.OneRowLaws.{charged-none, tells-front}
use Rattle.analysis.proofs.one_row.ucb_only.Goals as goal

pub loop-j-init : goal.loop-j-init
loop-j-init c = record {
  charged = charged-none _ c.requires;
  most = c.none-most.ensures ∙ hit-none (λ k. total (ucb_of c.args.pending.table.now k)) (c.args.pending.i + 1);
}

pub loop-j-preserved : goal.loop-j-preserved
loop-j-preserved c =
    let h = c.loop-j.invariant in
    let a = c.args in
    let j = c.loop-j.j - 1 in
    let last : j + 1 ≡ c.loop-j.j = omega arith in
    let F : ℕ → ℕ = λ k. total (ucb_of a.pending.table.now k) in
    let own = c.size-reloads.ensures.count ∙ ap₂ (λ (w : ℕ) (t : Task). total (counts w t.ucb)) c.ways.ensures c.task.ensures in
    let most : c.larger-most.result ≡ largest_from (j + 1) F (between (j + 1) (a.pending.i + 1)) =
    c.larger-most.ensures ∙ hit-front F (j + 1) (a.pending.i + 1) _ _ (omega arith) own (rw (← last) at h.most) in
    record {
      charged = tells-front a.pending.i c.loop-j.j j (omega (arith, c.args.pending.accepted.few, c.args.pending.held)) (omega arith) _
          (ap Victim (most ∙ largest-from F (j + 1) (a.pending.i + 1) (omega arith)) ∙ sym (largest-ucb a.pending.table.now a.pending.i j)) h.charged;
      most = most;
    }
