-- What the turns so far leave.
use Rattle.std.proofs.Common.{◌≡◌}
use Rattle.bench_parts.specs.Parts.{turns, first_ticks}
use Rattle.bench_parts.proofs.answer.Given as goal

abbrev pub invariant-loop : goal.invariant-loop
invariant-loop l = l.first ≡ turns l.counter 0 (first_ticks l.accepted.table.now)
