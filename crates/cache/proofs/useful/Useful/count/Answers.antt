-- `useful::Useful::count` meets its contract.
use Rattle.std.proofs.Common.{ℕ, ◌+◌, sym, ap, ◌∙◌, arith}
use mir.Val.{bool_byte}
use Rattle.cache.proofs.LevelLaws.{bit-lt, height-none, height-more}
use Rattle.cache.proofs.useful.Useful.count.Goals as goal

pub loop-l-init : goal.loop-l-init
loop-l-init c = (sym (height-none _ _), omega arith)

pub loop-l-preserved : goal.loop-l-preserved
loop-l-preserved c =
    let l = bit-lt c.has.result in
    (ap (λ (x : ℕ). x + bool_byte c.has.result) c.loop-l.invariant.0 ∙ sym (height-more _ _ _ c.has.ensures), omega arith)
