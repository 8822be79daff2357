-- Phrases of sentences: numbers of things.
use Rattle.std.specs.Prelude.{ℕ, List, [], ◌++◌, codes, if◌then◌else◌, ◌==◌}
use Rattle.writing.specs.Text.{spelled}

-- `1 tick`, `2 ticks`
unfoldable pub counted_words : ℕ → List ℕ → List ℕ
counted_words n what = spelled n ++ what ++ (if n == 1 then [] else codes "s")

abbrev pub ticks_words : ℕ → List ℕ
ticks_words n = counted_words n (codes " tick")
