-- `useful::Useful::from_digits` meets its contract.
use Rattle.std.proofs.Common.{◌≡◌, ◌≤◌, ◌∙◌, arith}
use Rattle.cache.proofs.DigitLaws.{level-none, level-next, leveled-is}
use Rattle.cache.proofs.useful.Useful.from_digits.Goals as goal

pub loop-l-init : goal.loop-l-init
loop-l-init c = level-none _

pub loop-l-preserved : goal.loop-l-preserved
loop-l-preserved c = let few : c.looked_at-l-end.result ≤ 8 = omega (arith, c.looked_at-l-end.ensures) in level-next _ _ _ _ (omega arith) c.level_of.ensures c.loop-l.invariant

pub returns : goal.returns
returns c =
    let e : c.loop-l.l ≡ c.looked_at-l-end.result = omega arith in
    leveled-is _ _ _ _ (e ∙ c.looked_at-l-end.ensures) c.loop-l.invariant
