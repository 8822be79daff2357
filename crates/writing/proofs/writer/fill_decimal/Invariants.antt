-- The digits from k on are there, and `left` has those before.
use Rattle.std.proofs.Common.{◌≡◌, ◌++◌, length, drop}
use Rattle.writing.specs.Text.{spelled}
use Rattle.writing.proofs.Spelling.{decimal_digits}
use Rattle.writing.proofs.writer.fill_decimal.Given as goal

abbrev pub invariant-loop-k : goal.invariant-loop-k
invariant-loop-k l = record {
  filled : decimal_digits l.k l.left ++ drop l.k l.places ≡ spelled l.n;
  long : length l.places ≡ length l.initial.places;
}
