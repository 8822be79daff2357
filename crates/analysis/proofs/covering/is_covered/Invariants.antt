-- What is left to be tested decides.
use Rattle.std.proofs.Common.{◌≡◌}
use Rattle.std.specs.List.{list_all}
use Rattle.table.proofs.BlockingLaws.{Every}
use Rattle.analysis.specs.Analysis.{MayBlock}
use Rattle.analysis.specs.Covering.{covers, is_covered}
use Rattle.analysis.proofs.covering.is_covered.Given as goal

abbrev pub invariant-loop-access : goal.invariant-loop-access
invariant-loop-access l = record {
  answer : list_all (covers l.pending.table.now l.method l.pending.i l.time.0) l.access-iterator ≡ is_covered l.pending.table.now l.method l.pending.i l.time.0;
  block : Every (λ a. MayBlock a l.pending.i) l.access-iterator;
}
