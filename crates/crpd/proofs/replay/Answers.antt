-- By what is read.
use Rattle.std.proofs.Common.{◌≡◌, ap, ◌∙◌}
use Rattle.std.proofs.lemmas.Result.{err_from_is_err_and}
use Rattle.replay.specs.Replay.{replayed}
use Rattle.crpd.specs.Operations.{replay_to}
use Rattle.crpd.proofs.Meant.{text_replay}
use Rattle.crpd.proofs.Steps.{replay-refused, replay-accepted}
use Rattle.crpd.proofs.replay.Goals as goal

pub returns-in_err-check-clause-means : goal.returns-in_err-check-clause-means
returns-in_err-check-clause-means c =
    let p = err_from_is_err_and c.from_residual-in_err-check.result c.from_residual-in_err-check.ensures.1 in
    let value : c.from_residual-in_err-check.result ≡ replay_to c.args.text.now c.args.position =
    rw (p.1, p.2) (replay-refused _ _ c.in_ok-accepted.ensures _ c.in_err-check.ensures c.args.position) in
    text_replay c.args.text.now c.args.position _ value

pub returns : goal.returns
returns c =
    let asked = c.in_ok-pending.ensures in
    let value =
    replay-accepted _ _ c.in_ok-accepted.ensures c.in_ok-check.ensures _ _ asked.position _ (c.replay.ensures.value ∙ ap (λ t. replayed t c.in_ok-pending.pending.i) asked.table) in
    record { value = value; means = text_replay c.args.text.now c.args.position _ value }
