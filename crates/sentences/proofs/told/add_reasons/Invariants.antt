-- The tasks above j are told.
use Rattle.std.proofs.Common.{◌≡◌, ◌++◌, flat_map}
use Rattle.search.specs.Positions.{between}
use Rattle.analysis.specs.Costs.{charge_under}
use Rattle.sentences.specs.Sentences.{task_sentence}
use Rattle.sentences.proofs.told.add_reasons.Given as goal

abbrev pub invariant-loop-j : goal.invariant-loop-j
invariant-loop-j l =
    l.out.items ≡ l.initial.out.items
    ++ flat_map (λ k. task_sentence l.pending.table.now l.r.0 k (charge_under l.pending.table.now l.need.blocker l.need.method l.pending.i k)) (between 0 l.j)
