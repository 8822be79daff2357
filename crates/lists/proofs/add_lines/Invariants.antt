-- The lines so far, and those that are left, are all lines.
use Rattle.std.proofs.Common.{◌≡◌, ◌++◌}
use Rattle.texts.specs.Cut.{lines}
use Rattle.lists.specs.Together.{lent_of}
use Rattle.lists.proofs.add_lines.Given as goal

abbrev pub invariant-loop-line : goal.invariant-loop-line
invariant-loop-line l = lent_of l.found.items ++ l.line-iterator ≡ lent_of l.initial.found.items ++ lines l.list
