-- Answers for `may_take`.
use native.Mathlib.Omega.{arith}
use Rattle.runs.proofs.may_take.Goals as goal
use Rattle.runs.proofs.PromiseLaws.{taken}
use Rattle.std.proofs.lemmas.Grind.{common_steps}

-- src/lib.rt:42:1
pub returns-clause-uses : goal.returns-clause-uses
returns-clause-uses c s z legal left t low v m x a b e u =
    let d = low v c.args.user m a b e in
    let used = taken s z legal c.args.lowest c.args.user v m x d e u in
    (grind (arith, common_steps), used)
