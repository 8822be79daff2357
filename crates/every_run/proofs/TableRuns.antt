-- The runs of a table are no empty notion: from any programs that keep what the table promises, the machine makes one.
use Rattle.std.proofs.Common.{ℕ}
use Rattle.table.specs.declared.Table.{Table}
use Rattle.table.specs.Accepted.{AcceptedTable}
use Rattle.runs.specs.model.Legal.{Legal}
use Rattle.runs.specs.machine.Programs.{Programs, ProgramsKept}
use Rattle.runs.specs.machine.Turns.{machine}
use Rattle.runs.proofs.ProgramLaws.{machine-legal}
use Rattle.every_run.specs.TableRuns.{system_of}
use Rattle.every_run.proofs.TableBounds.{constrained}

pub machine-runs : (table : Table) → AcceptedTable table → (brt : ℕ) (w : Programs) → ProgramsKept (system_of table brt) w
    → Legal (system_of table brt) (machine (system_of table brt) w)
machine-runs table accepted brt w kept = machine-legal (system_of table brt) w (constrained table accepted) kept
