-- A method more each time.
use Rattle.std.proofs.Common.{ap, ◌∙◌, false}
use Rattle.std.specs.Prelude.{slice_index_or}
use Rattle.std.specs.String.{string_bytes}
use Rattle.bars.specs.Bars.{listed_if}
use Rattle.bars.proofs.Lists.{listed-more}
use Rattle.bars.proofs.passing.Goals as goal

pub loop-method-preserved : goal.loop-method-preserved
loop-method-preserved c =
    let names = string_bytes c.loop-method.names in
    listed-more _ names _ _ c.loop-method-test.true
    (c.in_ok-list_if.ensures ∙ ap (λ n. listed_if (slice_index_or c.args.passes.now c.loop-method.method false) names n) c.name_by_number.ensures) c.loop-method.invariant
