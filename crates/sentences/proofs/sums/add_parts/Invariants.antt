-- The lines so far, and those that are left, are all lines.
use Rattle.std.proofs.Common.{◌≡◌, ◌++◌, drop}
use Rattle.std.specs.Prelude.{flat_map}
use Rattle.sentences.specs.Sums.{told_parts, part_line}
use Rattle.sentences.proofs.sums.add_parts.Given as goal

abbrev pub invariant-loop-part : goal.invariant-loop-part
invariant-loop-part l =
    l.out.items ++ flat_map (part_line l.widths) (told_parts (drop l.part-index l.parts)) ≡ l.initial.out.items ++ flat_map (part_line l.widths) (told_parts l.parts)
