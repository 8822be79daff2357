use Rattle.std.specs.Str.Iter.{chars_rest}
use Rattle.std.specs.String.{string_bytes}
use Rattle.drawn.proofs.Texts.{Escaping}
use Rattle.drawn.proofs.svg.escaped.Given as goal

abbrev pub invariant-loop-character : goal.invariant-loop-character
invariant-loop-character l = Escaping l.text (string_bytes l.out) (chars_rest l.character-iterator)
