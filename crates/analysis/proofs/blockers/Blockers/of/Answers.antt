-- `blockers::Blockers::of` meets its contract: the longest stands in front of the others.
use Rattle.std.proofs.Common.{◌+◌}
use Rattle.table.specs.Tables.{accesses_of}
use Rattle.analysis.proofs.BlockerLaws.{rest-of, one-in-front}
use Rattle.analysis.proofs.blockers.Blockers.of.Goals as goal

pub returns-in-Some : goal.returns-in-Some
returns-in-Some c =
    let a = c.args in
    rw (c.of.ensures, c.of-in-Some.ensures, c.accesses-accesses.ensures, rest-of (accesses_of a.table.now) (c.in-Some.n + 1))
    (one-in-front a.otherwise.now (accesses_of a.table.now) a.i c.in-Some.n (rw c.accesses-accesses.ensures at c.in-Some.ensures))
