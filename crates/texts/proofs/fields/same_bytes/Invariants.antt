-- The loop's invariant: the bytes from `k` on are the same just if all are.
use Rattle.std.proofs.Common.{◌≡◌, length, drop}
use Rattle.std.specs.Str.{bytes_eq}
use Rattle.texts.proofs.fields.same_bytes.Given as goal

abbrev pub invariant-loop-k : goal.invariant-loop-k
invariant-loop-k l = (length l.a ≡ length l.b) × (bytes_eq (drop l.k l.a) (drop l.k l.b) ≡ bytes_eq l.a l.b)
