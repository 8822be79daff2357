-- What is asked of the ranges that are left is asked of all.
use Rattle.std.proofs.Common.{◌≡◌, nat_le, ◌&&◌, drop}
use Rattle.std.specs.List.{list_any}
use Rattle.spelling.specs.Spelling.{unseen}
use Rattle.spelling.proofs.is_seen.Given as goal

abbrev pub invariant-loop-range : goal.invariant-loop-range
invariant-loop-range l = list_any (λ range. nat_le range.0 l.code && nat_le l.code range.1) (drop l.range-index unseen) ≡ list_any (λ range. nat_le range.0 l.code && nat_le l.code range.1) unseen
