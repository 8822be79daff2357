-- What is left is clean where the whole text is.
use Rattle.std.proofs.Common.{◌≡◌, drop}
use Rattle.spelling.specs.Spelling.{is_clean_from, is_clean}
use Rattle.spelling.proofs.is_clean.Given as goal

abbrev pub invariant-loop-place : goal.invariant-loop-place
invariant-loop-place l = is_clean_from l.kept (drop l.place l.text) ≡ is_clean l.text
