-- Faults: why a line or a call is refused, and which field it is about; and the refusal that tells a line beside it.
use Rattle.std.specs.Prelude.{ℕ, Some, None}
use Rattle.texts.specs.declared.refusals.Reason.{Reason}
use Rattle.texts.specs.declared.refusals.Fault.{Fault}
use Rattle.texts.specs.declared.refusals.Refusal.{Refusal}

-- a fault of a field of the line, counted from 0: where the line has too few, of the place behind them
abbrev pub at_field : ℕ → Reason → Fault
at_field n reason = record { reason = reason; field = Some n }

-- one of no field
abbrev pub no_field : Reason → Fault
no_field reason = record { reason = reason; field = None }

abbrev pub on_line : ℕ → Fault → Refusal
on_line line fault = record { reason = fault.reason; line = line; field = fault.field }
