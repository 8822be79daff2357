-- One task after the other.
use Rattle.std.proofs.Common.{sym, ◌∙◌, arith}
use Rattle.table_text.proofs.NextLaws.{next-passes, next-fails, none-left}
use Rattle.table_text.proofs.readable.are_next.Goals as goal

pub returns-then-not-is_next : goal.returns-then-not-is_next
returns-then-not-is_next c = sym (sym c.loop-k.invariant ∙ next-fails c.args.form c.args.sets c.args.tasks.now c.loop-k.k (omega arith) (cc))

pub loop-k-preserved : goal.loop-k-preserved
loop-k-preserved c = next-passes c.args.form c.args.sets c.args.tasks.now c.loop-k.k (omega arith) (cc) ∙ c.loop-k.invariant

pub returns : goal.returns
returns c = sym (sym c.loop-k.invariant ∙ none-left c.args.form c.args.sets c.args.tasks.now c.loop-k.k (omega arith))
