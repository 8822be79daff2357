-- The loop's invariant: `start` has an access that may block the task, and what is needed while it does.
use Rattle.std.proofs.Common.{◌≡◌}
use Rattle.table.specs.Tables.{accesses_of}
use Rattle.analysis.specs.Analysis.{MayBlockAt}
use Rattle.analysis.specs.Needs.{need_at}
use Rattle.analysis.proofs.need.begin_with.Given as goal

abbrev pub invariant-loop : goal.invariant-loop
invariant-loop l = MayBlockAt (accesses_of l.pending.table.now) l.pending.i l.start.at × (l.start.time ≡ need_at l.pending.table.now l.method l.pending.i l.start.at)
