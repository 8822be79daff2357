-- A response in the row of its task.
use Rattle.changes.proofs.Places.{placed-in-row}
use Rattle.changes.proofs.answers.response_placed.Goals as goal

pub returns-in-Some : goal.returns-in-Some
returns-in-Some c =
    placed-in-row c.args.accepted.table.now c.args.rows.now c.args.place c.in-Some.k c.args.method _ _ c.requires.rows c.in-Some.is
    (c.requires.place c.in-Some.k c.in-Some.is) c.requires.method
