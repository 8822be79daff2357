-- The loop's invariant: the digits passed say `v`, which they bound by a power of ten, and what is left to read, after `v`, is what was to be read.
use Rattle.std.proofs.Common.{◌≡◌, ◌<◌, ◌^◌, drop}
use Rattle.texts.specs.Fields.{read_digits}
use Rattle.texts.proofs.fields.read_digits.Given as goal

abbrev pub invariant-loop-b : goal.invariant-loop-b
invariant-loop-b l = (l.v < 10 ^ l.b-index) × (read_digits l.v (drop l.b-index l.f) ≡ read_digits 0 l.f)
