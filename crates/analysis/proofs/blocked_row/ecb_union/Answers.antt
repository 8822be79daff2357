-- `blocked_row::ecb_union` meets its contract.
use Rattle.std.proofs.Common.{ℕ, ◌≡◌, ◌+◌, ◌-◌, sym, ap, ap₂, ◌∙◌, arith}
use Rattle.cache.specs.Sets.{Set}
use Rattle.cache.specs.Counts.{Counts, ◌on◌, total}
use Rattle.cache.specs.Levels.{counts}
use Rattle.search.specs.Positions.{hp}
use Rattle.table.specs.Tables.{ways_in}
use Rattle.table.proofs.AddedLaws.{added-above}
use Rattle.analysis.specs.declared.costs.Charge.TheVariants.{Victim}
use Rattle.analysis.specs.Gather.{aff, union_of, hit, larger_of, largest_at}
use Rattle.analysis.specs.Costs.{ucb_of, ecb_of}
use Rattle.analysis.proofs.CostLaws.{largest-share}
use Rattle.analysis.proofs.JoinLaws.{joined-past, joined-hit}
use Rattle.analysis.proofs.blocked_row.ecb_union.Goals as goal

pub loop-j-init : goal.loop-j-init
loop-j-init c = joined-past c.args.access.now.ceiling c.requires.0 (omega arith) c.requires.1

pub loop-j-preserved : goal.loop-j-preserved
loop-j-preserved c =
    let a = c.args in
    let T = a.pending.table.now in
    let j = c.loop-j.j - 1 in
    let last : j + 1 ≡ c.loop-j.j = omega arith in
    let V = union_of (ecb_of T) (hp (j + 1)) in
    let shared = c.size_in-shared.ensures.count
    ∙ ap₂ (λ (w : ℕ) (E : Set). total (counts w a.access.now.ucb on E)) c.ways.ensures (c.evictors-unions.ensures.each j (omega arith))
    ∙ ap (λ (X : Counts). total (X on V)) (sym (added-above (ways_in T) a.access.now j (omega arith))) in
    joined-hit j _ (omega (arith, a.pending.accepted.few, a.pending.held)) (largest-share T a.pending.i j) c.with.ensures
    (ap (λ (n : ℕ). Victim (larger_of (largest_at (λ k. total (ucb_of T k on V)) (aff a.pending.i j)) (hit n a.access.now.task))) shared) (rw (← last) at c.loop-j.invariant)
