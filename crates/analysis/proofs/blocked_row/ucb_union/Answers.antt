-- `blocked_row::ucb_union` meets its contract.
use Rattle.std.proofs.Common.{◌≡◌, ◌+◌, ◌-◌, ap, ap₂, ◌∙◌, arith}
use Rattle.cache.specs.Counts.{Counts, ◌on◌, ◌⊕◌, capped, total}
use Rattle.cache.specs.Sets.{Set}
use Rattle.cache.specs.Words.{members}
use Rattle.cache.specs.Levels.{counts}
use Rattle.cache.proofs.CountLaws.{capped_left}
use Rattle.cache.proofs.LevelLaws.{heights-none}
use Rattle.table.specs.declared.tasks.Task.{Task}
use Rattle.table.specs.Tables.{ways_in}
use Rattle.table.specs.Accesses.{added_by}
use Rattle.search.specs.Positions.{between}
use Rattle.analysis.specs.Gather.{counts_over}
use Rattle.analysis.specs.Costs.{no_victim, ucb_of, ecb_of}
use Rattle.analysis.proofs.SumLaws.{sum-none, sum-front}
use Rattle.analysis.proofs.OneRowLaws.{charged-none, tells-front}
use Rattle.analysis.proofs.blocked_row.ucb_union.Goals as goal

pub loop-j-init : goal.loop-j-init
loop-j-init c = record {
  charged = charged-none _ c.requires;
  all = heights-none _ 8 ∙ sum-none (ways_in c.args.pending.table.now) (ucb_of c.args.pending.table.now) (c.args.pending.i + 1);
  ways = c.ways-ways.ensures;
}

pub loop-j-preserved : goal.loop-j-preserved
loop-j-preserved c =
    let h = c.loop-j.invariant in
    let a = c.args in
    let j = c.loop-j.j - 1 in
    let last : j + 1 ≡ c.loop-j.j = omega arith in
    let W = ways_in a.pending.table.now in
    let joined = rw h.ways at c.join.ensures in
    let all : counts W c.join.new.self ≡ capped W (counts_over (ucb_of a.pending.table.now) (between (j + 1) (a.pending.i + 1))) =
    joined
    ∙ sum-front W (ucb_of a.pending.table.now) (j + 1) (a.pending.i + 1) _ _ (omega arith) (ap (λ (t : Task). counts W t.ucb) c.task.ensures) (rw (← last) at h.all) in
    let evictor = ap (λ (t : Task). members t.ecb) c.task-in-loop-j.ensures in
    let shared = rw h.ways at c.shared_with.ensures
    ∙ ap₂ (λ (U : Counts) (E : Set). total (capped W (U ⊕ added_by W a.access.now j) on E)) all evictor
    ∙ ap (λ (U : Counts). total (U on ecb_of a.pending.table.now j))
    (capped_left W (counts_over (ucb_of a.pending.table.now) (between (j + 1) (a.pending.i + 1))) (added_by W a.access.now j)) in
    record {
      charged = tells-front a.pending.i c.loop-j.j j (omega (arith, c.args.pending.accepted.few, c.args.pending.held)) (omega arith) _ (ap no_victim shared) h.charged;
      all = all;
      ways = h.ways;
    }
