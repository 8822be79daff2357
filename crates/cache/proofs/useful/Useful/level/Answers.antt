-- `useful::Useful::level` meets its contract.
use Rattle.std.proofs.Common.{◌≡◌, length, rules}
use Rattle.cache.proofs.LevelLaws.{length-mapped}
use Rattle.cache.proofs.useful.Useful.level.Goals as goal

pub returns-clause-long : goal.returns-clause-long
returns-clause-long c =
    let g = c.well_formed in
    let long : length c.args.self.now.levels ≡ 8 = search (length-mapped, rules) in
    long
