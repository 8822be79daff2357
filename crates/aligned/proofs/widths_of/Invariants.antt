-- To widen on from here gives what all lines give.
use Rattle.std.proofs.Common.{◌≡◌, drop}
use Rattle.std.specs.Prelude.{fold}
use Rattle.aligned.specs.Aligned.{shown_lines, widened, widths_of}
use Rattle.aligned.proofs.widths_of.Given as goal

abbrev pub invariant-loop-line : goal.invariant-loop-line
invariant-loop-line l = fold widened l.widths (shown_lines (drop l.line-index l.lines)) ≡ widths_of (shown_lines l.lines)
