-- Answers for `may_lose`.
use native.Mathlib.Omega.{arith}
use Rattle.runs.proofs.may_lose.Goals as goal
use Rattle.runs.proofs.PromiseLaws.{above-job, above-access}
use Rattle.std.proofs.lemmas.Grind.{common_steps}

-- src/lib.rt:33:1
pub returns-clause-job : goal.returns-clause-job
returns-clause-job c s sane z legal w m l from v t e f a b g o =
    let d = above-job s z legal sane c.args.victim c.args.other m l from v t e f a b g o in
    grind (arith, common_steps)

pub returns-clause-access : goal.returns-clause-access
returns-clause-access c s z legal u t m l h e b q f o =
    let d = above-access s z legal c.args.waiting c.args.victim c.args.other u t m l h e b f o in
    grind (arith, common_steps)
