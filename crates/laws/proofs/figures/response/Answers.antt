-- `laws::figures::response` meets its contract.
use Rattle.laws.proofs.FigureLaws.{figured}
use Rattle.laws.proofs.figures.response.Goals as goal

pub returns : goal.returns
returns c = record { value = c.respond.ensures.value; figure = figured c.args.pending.table.now c.args.method c.args.pending.i _ c.respond.ensures.value }
