-- The lines of the tasks above j are written.
use Rattle.std.proofs.Common.{◌≡◌, ◌++◌, flat_map}
use Rattle.search.specs.Positions.{between}
use Rattle.analysis.specs.Costs.{charge_under}
use Rattle.report.specs.Explanation.{reason_line}
use Rattle.report.proofs.explanation.lines.write_reason_lines.Given as goal

abbrev pub invariant-loop-j : goal.invariant-loop-j
invariant-loop-j l =
    l.draft ≡ l.initial.draft
    ++ flat_map (λ k. reason_line l.table l.r k (charge_under l.table l.need.blocker l.need.method l.i k)) (between 0 l.j)
