-- Two texts that are spelled alike are the same.
use Rattle.std.proofs.Common.{◌∙◌}
use Rattle.std.proofs.lemmas.Result.{IfOk-weaker}
use Rattle.spelling.proofs.Apart.{spelled-apart}
use Rattle.spelling.proofs.spelled_out.Goals as goal

pub returns-clause-apart : goal.returns-clause-apart
returns-clause-apart c = IfOk-weaker c.spelled.result _ _ (λ out is other e. spelled-apart c.args.text.now other (e ∙ is)) c.spelled.ensures
