-- What is spelled so far, and the spelling of what is left, are that of the whole text.
use Rattle.std.proofs.Common.{◌≡◌, ◌++◌, drop}
use Rattle.spelling.specs.Spelling.{spelled_from}
use Rattle.spelling.proofs.spelled.Given as goal

abbrev pub invariant-loop-place : goal.invariant-loop-place
invariant-loop-place l = l.out.items ++ spelled_from l.kind l.kept (drop l.place l.text) ≡ spelled_from l.kind 0 l.text
