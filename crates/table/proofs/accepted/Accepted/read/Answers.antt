-- A table that is read is accepted.
use Rattle.std.proofs.Common.{sym}
use Rattle.table.proofs.AcceptedLaws.{accepted-table}
use Rattle.table.proofs.accepted.Accepted.read.Goals as goal

pub invariant_of-result : goal.invariant_of-result
invariant_of-result c = record { accepted = accepted-table c.args.text.now c.read.new.self (sym c.in_ok-read.ensures.read) }
