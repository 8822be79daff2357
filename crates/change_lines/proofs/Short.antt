-- A field of useful blocks is short.
use Rattle.std.proofs.Common.{ℕ, ◌≤◌, length, arith}
use Rattle.cache.specs.declared.useful.Form.{Form}
use Rattle.cache.specs.declared.useful.Form.TheVariants.{Hex, Digits}
use Rattle.cache.specs.declared.useful.Useful.{Useful}
use Rattle.cache.specs.Levels.{set_at, counts}
use Rattle.writing.specs.Marks.{useful_text}
use Rattle.writing.proofs.CountDigits.{counts-long}
use Rattle.writing.proofs.Digits.{marks-long}

pub useful-short : (form : Form) (sets : ℕ) (u : Useful) → sets ≤ 256 → length (useful_text form sets u) ≤ 256
unfolding useful_text
useful-short Hex sets u h = omega (arith, marks-long sets (set_at u.levels 0))
useful-short (Digits ways) sets u h = omega (arith, counts-long sets (counts ways u))
