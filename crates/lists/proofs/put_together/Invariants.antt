-- The lines of the lists so far, and then the text of the lines so far, with what is left.
use Rattle.std.proofs.Common.{◌≡◌, ◌++◌, drop}
use Rattle.lists.specs.Together.{lent_of, texts_of, lines_in, text_of_lines}
use Rattle.lists.proofs.put_together.Given as goal

abbrev pub invariant-loop-list : goal.invariant-loop-list
invariant-loop-list l = lent_of l.found.items ++ lines_in (texts_of (drop l.list-index l.lists)) ≡ lines_in (texts_of l.lists)

abbrev pub invariant-loop-line : goal.invariant-loop-line
invariant-loop-line l = l.list.items ++ text_of_lines (lent_of (drop l.line-index l.line-items)) ≡ text_of_lines (lent_of l.line-items)
