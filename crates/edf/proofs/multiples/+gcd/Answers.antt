-- By Euclid's rule.
use Rattle.std.proofs.Common.{sym, ◌∙◌, arith}
use Rattle.edf.proofs.MultiplesLaws.{gcd-stop, gcd-step, greatest-is}
use Rattle.edf.proofs.multiples.+gcd.Goals as goal

pub returns-then-b-eq0-clause-value : goal.returns-then-b-eq0-clause-value
returns-then-b-eq0-clause-value t c = rw (c.if-b-eq0.true) (sym (gcd-stop c.args.a))

pub returns-else-b-eq0-clause-value : goal.returns-else-b-eq0-clause-value
returns-else-b-eq0-clause-value t c = c.gcd.ensures.value ∙ gcd-step _ _ (omega arith)

pub returns-else-b-eq0-clause-greatest : goal.returns-else-b-eq0-clause-greatest
returns-else-b-eq0-clause-greatest t c = greatest-is _ _ _ (returns-else-b-eq0-clause-value t c)
