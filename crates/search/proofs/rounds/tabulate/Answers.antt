-- `rounds::tabulate` meets its contract: the windows of each step stand beside those of the others.
use Rattle.std.proofs.Common.{refl}
use Rattle.search.proofs.RoundLaws.{tabled}
use Rattle.search.proofs.rounds.tabulate.Goals as goal

pub returns : goal.returns
returns c =
    let p = c.requires in
    tabled _ _ _ _ _ _ _ p.0.few p.0.ranged p.4 p.5 refl c.lacking-lacks.ensures _ _ _ c.windows.ensures c.windows-2.ensures _ c.least_of.ensures
