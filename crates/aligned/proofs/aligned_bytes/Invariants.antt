-- The lines so far, and those that are left, are all lines.
use Rattle.std.proofs.Common.{◌≡◌, ◌++◌, drop}
use Rattle.std.specs.Prelude.{flat_map}
use Rattle.aligned.specs.Aligned.{shown_lines, aligned_line}
use Rattle.aligned.proofs.aligned_bytes.Given as goal

abbrev pub invariant-loop-line : goal.invariant-loop-line
invariant-loop-line l = l.out.items ++ flat_map (aligned_line l.colours l.widths) (shown_lines (drop l.line-index l.lines)) ≡ flat_map (aligned_line l.colours l.widths) (shown_lines l.lines)
