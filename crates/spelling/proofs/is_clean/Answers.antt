-- One byte more.
use Rattle.std.proofs.Common.{rules}
use Rattle.spelling.proofs.Steps.{clean-next}
use Rattle.spelling.proofs.is_clean.Goals as goal

pub loop-place-preserved : goal.loop-place-preserved
loop-place-preserved c =
    clean-next c.args.text.now c.loop-place.place c.loop-place.kept c.kept_now-kept.result _ c.loop-place-test.true (search rules) c.if-kept-eq0.false c.loop-place.invariant
