-- No more pre-emptions than ticks.
use Rattle.search.proofs.DemandLaws.{ceil-most}
use Rattle.edf.proofs.charges.preemptions.Goals as goal

pub returns-clause-most : goal.returns-clause-most
returns-clause-most c = ceil-most c.args.ticks 250000000 c.args.period.0 c.requires.1 c.requires.0
