-- `carried::Column::counted_with` meets its contract.
use Rattle.std.proofs.Common.{ℕ, refl, ap, ◌∙◌}
use Rattle.cache.specs.Words.{members}
use Rattle.analysis.specs.declared.costs.Hit.{Hit}
use Rattle.analysis.specs.declared.costs.Single.TheVariants.{None, EcbOnly, UcbOnly, UcbUnion, EcbUnion}
use Rattle.analysis.specs.Gather.{hit, larger_of}
use Rattle.analysis.proofs.ColumnLaws.{with-few}
use Rattle.analysis.proofs.carried.Column.counted_with.Goals as goal

pub returns-clause-each : goal.returns-clause-each
returns-clause-each c None = refl
returns-clause-each c EcbOnly = refl
returns-clause-each c UcbOnly =
    ap (λ (h : Hit). h.reloads.0) c.larger.ensures ∙ ap (λ (n : ℕ). (larger_of c.args.self.now.most (hit n c.args.useful.victim)).reloads.0) c.requires.useful.1
returns-clause-each c UcbUnion = c.joined_size_in.ensures.count
returns-clause-each c EcbUnion = ap (λ (h : Hit). h.reloads.0) c.most_shared.ensures

pub returns-clause-few : goal.returns-clause-few
returns-clause-few c =
    with-few c.args.ways (members c.args.ecb) c.args.self.now c.args.ucb.now c.args.useful.victim _ c.requires.useful.0 c.requires.small
    c.joined_size_in.ensures.most (returns-clause-each c)
