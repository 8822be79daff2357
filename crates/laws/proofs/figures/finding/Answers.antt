-- `laws::figures::finding` meets its contract.
use Rattle.laws.proofs.FigureLaws.{finding-figured}
use Rattle.laws.proofs.figures.finding.Goals as goal

pub returns : goal.returns
returns c = record { value = c.judge.ensures.value; figure = finding-figured _ _ _ _ _ c.judge.ensures.value }
