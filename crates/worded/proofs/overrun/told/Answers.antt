-- The tasks that are charged are in range.
use Rattle.edf.proofs.ChargeLaws.{charged-timed, front-charged}
use Rattle.worded.proofs.overrun.told.Goals as goal

pub first_overrun-requires : goal.first_overrun-requires
first_overrun-requires c =
    rw (c.charged_tasks-charged.ensures, front-charged c.args.accepted.table.now) (charged-timed c.args.accepted.table.now c.args.accepted.accepted)

pub asked_by-requires : goal.asked_by-requires
asked_by-requires c = (
  rw (c.charged_tasks-charged.ensures, front-charged c.args.accepted.table.now) (charged-timed c.args.accepted.table.now c.args.accepted.accepted),
  c.in-Some.ensures,
)
