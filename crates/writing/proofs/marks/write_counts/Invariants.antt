-- `marks::write_counts`: what is written, and the digits that are left, are all.
use Rattle.std.proofs.Common.{◌≡◌, ◌++◌}
use Rattle.cache.specs.Levels.{counts}
use Rattle.writing.specs.Marks.{count_digits}
use Rattle.writing.proofs.marks.write_counts.Given as goal

abbrev pub invariant-loop-s : goal.invariant-loop-s
invariant-loop-s l = l.draft ++ count_digits l.s (counts l.fn.ways l.useful) ≡ l.fn.draft ++ count_digits l.fn.sets (counts l.fn.ways l.useful)
