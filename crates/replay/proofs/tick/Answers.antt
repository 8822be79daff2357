-- By the tally.
use Rattle.replay.proofs.TallyLaws.{most-due, most-short}
use Rattle.replay.proofs.LoopLaws.{tally-next, tick-runs}
use Rattle.replay.proofs.tick.Goals as goal

pub release_all-requires : goal.release_all-requires
release_all-requires c =
    let r = c.requires in (r.few, r.runnable, rw r.tallied (most-short _ _ r.runnable r.near))

pub run_highest-requires : goal.run_highest-requires
run_highest-requires c =
    let r = c.requires in (r.few, rw (c.release_all.ensures, r.tallied) (most-due _ _ _ _ r.runnable (most-short _ _ r.runnable r.near)))

pub returns-clause-state : goal.returns-clause-state
returns-clause-state c = tally-next _ _ _ _ _ c.run_highest.ensures.ran c.release_all.ensures c.requires.tallied

pub returns-clause-runs : goal.returns-clause-runs
returns-clause-runs c = tick-runs _ _ _ _ _ c.run_highest.ensures.highest c.release_all.ensures c.requires.tallied
