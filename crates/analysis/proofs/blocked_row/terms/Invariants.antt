-- The loop's invariant: the terms of the positions before j stand at the front.
use Rattle.std.proofs.Common.{◌≡◌}
use Rattle.search.specs.Positions.{front}
use Rattle.search.specs.Demand.{term_of}
use Rattle.analysis.specs.BlockedRow.{term_by}
use Rattle.analysis.proofs.blocked_row.terms.Given as goal

abbrev pub invariant-loop-j : goal.invariant-loop-j
invariant-loop-j l = l.terms ≡ front (term_of 0 0 0) (term_by l.pending.table.now l.row) l.j
