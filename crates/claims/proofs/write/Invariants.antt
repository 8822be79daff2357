-- The lines of the tasks so far are written.
use Rattle.std.proofs.Common.{◌≡◌, take, flat_map}
use Rattle.search.specs.Positions.{between}
use Rattle.claims.specs.Told.{finding_at}
use Rattle.claims.proofs.write.Given as goal

abbrev pub invariant-loop-i : goal.invariant-loop-i
invariant-loop-i l = l.draft ≡ flat_map (finding_at l.accepted.table.now l.method (take l.accepted.table.now.count l.claims)) (between 0 l.i)
