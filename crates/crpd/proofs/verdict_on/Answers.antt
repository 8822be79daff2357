-- Of the tasks that are charged.
use Rattle.std.proofs.lemmas.Result.{err_from_is_err_and}
use Rattle.crpd.proofs.Deadlines.{all-timed, long-told, posed-front, verdict-told}
use Rattle.crpd.proofs.verdict_on.Goals as goal

pub hyperperiod-requires : goal.hyperperiod-requires
hyperperiod-requires c = all-timed _ _ c.charged_tasks-charged.ensures c.args.accepted.accepted

pub returns-in_err-h : goal.returns-in_err-h
returns-in_err-h c =
    let p = err_from_is_err_and c.from_residual.result c.from_residual.ensures.1 in
    rw (p.1, p.2) (long-told _ _ c.charged_tasks-charged.ensures _ c.in_err-h.ensures)

pub decide-requires : goal.decide-requires
decide-requires c = posed-front _ _ c.charged_tasks-charged.ensures c.in_ok-h.h c.in_ok-h.ensures c.args.accepted.accepted

pub returns : goal.returns
returns c = verdict-told _ _ c.charged_tasks-charged.ensures c.in_ok-h.h c.in_ok-h.ensures _ c.decide.ensures.value
