-- A message to people at a terminal.
use Rattle.std.specs.Prelude.{ℕ, List, [], ◌∷◌, ◌++◌, codes}

-- as a line of the program `crpd`
abbrev pub message_line : List ℕ → List ℕ
message_line message = codes "crpd: " ++ message ++ 10 ∷ []
