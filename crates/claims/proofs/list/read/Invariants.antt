-- Going on from here gives what the whole list claims.
use Rattle.std.proofs.Common.{◌≡◌, length}
use Rattle.claims.specs.Lists.{NoneFrom}
use Rattle.claims.proofs.ListLaws.{ReadSoFar}
use Rattle.claims.proofs.list.read.Given as goal

abbrev pub invariant-loop-i : goal.invariant-loop-i
invariant-loop-i l = record {
  long : length l.claims ≡ 32;
  read : ReadSoFar l.accepted.table.now l.fn.list l.i l.rest l.claims;
  others : NoneFrom l.i l.claims;
}
