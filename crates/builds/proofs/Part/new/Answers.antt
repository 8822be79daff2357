-- There are as many parts as the last number says, and that is not 0.
use Rattle.std.proofs.Common.{arith, tests}
use Rattle.builds.proofs.Sharing.{shared-out}
use Rattle.builds.proofs.Part.new.Goals as goal

pub returns-clause-shared : goal.returns-clause-shared
returns-clause-shared c = λ _ ways. shared-out c.args.of ways (grind (arith, tests))
