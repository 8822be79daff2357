-- The lines so far stand in their place.
use Rattle.std.proofs.Common.{take, flat_map}
use Rattle.table.specs.Tables.{tasks_of, accesses_of}
use Rattle.writing.specs.Delivery.{PutsTextAt}
use Rattle.table_text.proofs.Lengths.{access_line}
use Rattle.table_text.proofs.put_accesses.Given as goal

abbrev pub invariant-loop-access : goal.invariant-loop-access
invariant-loop-access l =
    PutsTextAt (flat_map (access_line l.table.form l.table.sets (tasks_of l.table)) (take l.access-index (accesses_of l.table))) l.from l.initial.out l.at l.out
