-- `carried::most_shared` meets its contract.
use Rattle.std.proofs.Common.{sym, arith}
use Rattle.cache.specs.Counts.{◌on◌, total}
use Rattle.cache.specs.Levels.{counts}
use Rattle.cache.specs.Words.{members}
use Rattle.cache.proofs.CountLaws.{total-on-le}
use Rattle.analysis.specs.Gather.{hit}
use Rattle.analysis.proofs.HitLaws.{larger-first}
use Rattle.analysis.proofs.carried.most_shared.Goals as goal

pub returns-then-useful-most : goal.returns-then-useful-most
returns-then-useful-most c =
    let a = c.args in
    sym (larger-first a.most (hit (total (counts a.ways a.ucb.now on members a.above)) a.useful.victim)
    (omega (arith, c.requires.1, total-on-le (counts a.ways a.ucb.now) (members a.above))))
