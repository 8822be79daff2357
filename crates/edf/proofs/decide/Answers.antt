-- By the last time up to the common multiple that is exceeded, if there is one.
use Rattle.std.proofs.Common.{arith}
use Rattle.edf.proofs.VerdictLaws.{is_yes, is_no, to-all, means-yes, means-no, last-some, last-none}
use Rattle.edf.proofs.decide.Goals as goal

pub returns-in-Some-clause-value : goal.returns-in-Some-clause-value
returns-in-Some-clause-value c =
    let p = last-some _ _ _ _ c.in-Some.ensures in
    is_no c.args.tasks.now c.args.h.0 c.requires c.in-Some.field-0.0 (omega (arith, p)) p.2

pub returns-in-Some-clause-means : goal.returns-in-Some-clause-means
returns-in-Some-clause-means c = means-no c.args.tasks.now c.in-Some.field-0.0 (last-some _ _ _ _ c.in-Some.ensures).2

pub returns-in-None-clause-value : goal.returns-in-None-clause-value
returns-in-None-clause-value c = is_yes c.args.tasks.now c.args.h.0 c.requires (last-none _ _ _ c.in-None.ensures)

pub returns-in-None-clause-means : goal.returns-in-None-clause-means
returns-in-None-clause-means c = means-yes c.args.tasks.now (to-all c.args.tasks.now c.args.h.0 c.requires (last-none _ _ _ c.in-None.ensures))
