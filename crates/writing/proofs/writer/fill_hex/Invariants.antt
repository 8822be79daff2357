-- The first k digits are there.
use Rattle.std.proofs.Common.{◌≡◌, ◌*◌, ◌-◌, ◌/◌, ◌^◌, length, take}
use Rattle.writing.specs.Text.{hex_digits}
use Rattle.writing.proofs.writer.fill_hex.Given as goal

abbrev pub invariant-loop-k : goal.invariant-loop-k
invariant-loop-k l = record {
  filled : take l.k l.places ≡ hex_digits l.k (l.word / 2 ^ (4 * (length l.initial.places - l.k)));
  long : length l.places ≡ length l.initial.places;
}
