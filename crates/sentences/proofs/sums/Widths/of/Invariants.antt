-- To widen on from here gives what all parts give.
use Rattle.std.proofs.Common.{◌≡◌, drop}
use Rattle.std.specs.Prelude.{fold}
use Rattle.sentences.specs.Sums.{told_parts, widened_by, sum_widths}
use Rattle.sentences.proofs.sums.Widths.of.Given as goal

abbrev pub invariant-loop-part : goal.invariant-loop-part
invariant-loop-part l = fold widened_by l.widths (told_parts (drop l.part-index l.parts)) ≡ sum_widths (told_parts l.parts) l.whole
