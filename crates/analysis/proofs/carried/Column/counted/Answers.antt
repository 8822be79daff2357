-- `carried::Column::counted` meets its contract.
use Rattle.std.proofs.Common.{refl}
use Rattle.cache.specs.Words.{members}
use Rattle.analysis.specs.declared.costs.Single.TheVariants.{None, EcbOnly, UcbOnly, UcbUnion, EcbUnion}
use Rattle.analysis.proofs.ColumnLaws.{counted-few}
use Rattle.analysis.proofs.carried.Column.counted.Goals as goal

pub returns-clause-each : goal.returns-clause-each
returns-clause-each c None = refl
returns-clause-each c EcbOnly = refl
returns-clause-each c UcbOnly = refl
returns-clause-each c UcbUnion = c.size_in.ensures.count
returns-clause-each c EcbUnion = refl

pub returns-clause-few : goal.returns-clause-few
returns-clause-few c = counted-few c.args.ways (members c.args.ecb) c.args.self.now _ c.requires.small c.size_in.ensures.most (returns-clause-each c)
