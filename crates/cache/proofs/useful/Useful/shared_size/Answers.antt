-- `useful::Useful::shared_size` meets its contract.
use Rattle.std.proofs.Common.{◌≡◌, sym, ap, ◌∙◌, arith}
use Rattle.cache.specs.Counts.{total}
use Rattle.cache.proofs.LevelLaws.{covered-none, covered-more}
use Rattle.cache.proofs.useful.Useful.shared_size.Goals as goal

pub loop-l-init : goal.loop-l-init
loop-l-init c = covered-none _ _

pub loop-l-preserved : goal.loop-l-preserved
loop-l-preserved c = covered-more _ _ _ c.loop-l.invariant (c.is_in.ensures.meant c.if-not-is_in.false)

pub returns : goal.returns
returns c =
    let e : c.loop-l.l ≡ c.args.ways = omega arith in
    c.requires.1 ∙ sym (ap total (rw e at c.loop-l.invariant))
