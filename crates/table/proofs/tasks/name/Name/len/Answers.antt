-- A name ends where the first zero stands, or fills its bytes.
use Rattle.std.proofs.Common.{ap, length, sym, ◌∙◌, arith}
use Rattle.texts.proofs.Found.{end-found, before-missing}
use Rattle.table.proofs.tasks.name.Name.len.Goals as goal

pub returns-in-Some-clause-is : goal.returns-in-Some-clause-is
returns-in-Some-clause-is c = end-found 0 c.args.self.now.bytes c.in-Some.end (sym c.end.ensures ∙ c.in-Some.is)

pub returns-in-None-clause-is : goal.returns-in-None-clause-is
returns-in-None-clause-is c = omega (arith, ap length (before-missing 0 c.args.self.now.bytes (sym c.end.ensures ∙ c.in-None.is)))
