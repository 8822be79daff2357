-- The last line of a build's report, and a build's line in the list.
use Rattle.std.specs.Prelude.{ℕ, List, [], ◌∷◌, ◌++◌, map, codes}
use Rattle.writing.specs.Text.{line_of, yes_no}
use Rattle.writing.specs.Error.{error_text}
use Rattle.lists.specs.declared.Fate.{Fate}
use Rattle.lists.specs.declared.Fate.TheVariants.{Unread, Unwritten, Refused, Judged}

-- `V` with the verdicts, `E` with the refusal, or `F` with what failed
unfoldable pub fate_text : Fate → List ℕ
fate_text (Judged verdicts) = line_of (codes "V") (map yes_no verdicts)
fate_text (Refused refusal) = error_text refusal
fate_text Unread = line_of (codes "F") (codes "read" ∷ [])
fate_text Unwritten = line_of (codes "F") (codes "write" ∷ [])

-- a build's line: its name, a tab, and the last line of its report or what stands in its place
abbrev pub list_line : List ℕ → Fate → List ℕ
list_line name fate = name ++ 9 ∷ fate_text fate
