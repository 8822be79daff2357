-- `useful::Useful::put` meets its contract.
use Rattle.std.proofs.Common.{◌≡◌, refl, length, rules, arith, length-set}
use Rattle.cache.proofs.LevelLaws.{length-mapped, put-none, put-more}
use Rattle.cache.proofs.useful.Useful.put.Goals as goal

pub loop-l-init : goal.loop-l-init
loop-l-init c =
    let g = c.well_formed in
    let long : length c.args.self.now.levels ≡ 8 = search (length-mapped, rules) in
    (long, put-none _ _ _)

pub loop-l-preserved : goal.loop-l-preserved
loop-l-preserved c = (
  simp length-set (omega arith),
  put-more c.loop-l.invariant.1 c.union.result _ _ (omega arith) refl c.union.ensures c.intersection-more.ensures,
)
