-- `blockers::longest`: one of the first n that may block is found, or none of them may.
use Rattle.std.proofs.Common.{take}
use Rattle.analysis.specs.Analysis.{OneThatBlocks}
use Rattle.analysis.proofs.blockers.longest.Given as goal

abbrev pub invariant-loop-n : goal.invariant-loop-n
invariant-loop-n l = OneThatBlocks (take l.n l.accesses) l.i l.found
