-- What the turns so far leave.
use Rattle.table_text.specs.TableText.{table_text}
use Rattle.bench_parts.specs.Parts.{Repeated}
use Rattle.bench_parts.proofs.rewrite.Given as goal

abbrev pub invariant-loop : goal.invariant-loop
invariant-loop l = Repeated (table_text l.table) l.counter l.fn.out l.len l.out
