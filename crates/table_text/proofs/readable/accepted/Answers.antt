-- A table that some text gives is accepted.
use Rattle.table.proofs.AcceptedLaws.{accepted-table}
use Rattle.table_text.proofs.readable.accepted.Goals as goal

pub invariant_of-result : goal.invariant_of-result
invariant_of-result c =
    let given = c.is_readable.ensures.meant.0 c.if-is_readable.true in
    record { accepted = accepted-table given.0 c.args.table.now given.1 }
