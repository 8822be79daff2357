-- The tasks passed have released their jobs.
use Rattle.std.proofs.Common.{◌≡◌, refl, arith, length}
use Rattle.std.proofs.lemmas.List.Elements.{All-get_or}
use Rattle.replay.specs.Tally.{Runnable}
use Rattle.replay.proofs.LoopLaws.{release_to, release-here, release-turn, release-end, most-at}
use Rattle.replay.proofs.release_all.Goals as goal

pub loop-j-init : goal.loop-j-init
unfolding release_to
loop-j-init c = refl

pub with_due-requires : goal.with_due-requires
with_due-requires c = (
  All-get_or Runnable c.args.tasks.now c.loop-j.j _ (omega arith) c.requires.1,
  rw (release-here _ _ _ _ _ c.loop-j.invariant) (omega (arith, most-at 25000000000000 (length c.args.tasks.now) c.loop-j.j c.args.works.now c.requires.2 (omega arith))),
)

pub loop-j-preserved : goal.loop-j-preserved
loop-j-preserved c = release-turn _ _ _ _ _ c.loop-j.invariant (omega arith) _ c.with_due.ensures

pub returns : goal.returns
returns c =
    let e : c.loop-j.j ≡ length c.args.tasks.now = omega arith in rw (← e) (release-end _ _ _ _ _ c.loop-j.invariant e)
