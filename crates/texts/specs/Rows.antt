-- Conditions of refusals, tried in their order.
use Rattle.std.specs.Prelude.{ℕ, List, [], ◌∷◌, Bool, not, nat_le, Result, Ok, Err, if◌then◌else◌}
use Rattle.texts.specs.declared.refusals.Reason.TheVariants.{Name, Number, Range, Order}
use Rattle.texts.specs.declared.refusals.Fault.{Fault}
use Rattle.texts.specs.Faults.{at_field}
use Rattle.texts.specs.Cut.{field}
use Rattle.texts.specs.Fields.{is_name, is_number, number, is_within}

-- conditions, each with its fault
abbrev pub Conditions : Type 0
Conditions = List (Bool × Fault)

-- x, but where a condition is met: then the first such fault
unfoldable pub unless_fault : {X : Type 0} → Conditions → X → Result X Fault
unless_fault [] x = Ok x
unless_fault (r ∷ rows) x = if r.0 then Err r.1 else unless_fault rows x

-- field n of a line is no name
abbrev pub no_name : ℕ → List ℕ → Bool × Fault
no_name n line = (not (is_name (field n line)), at_field n Name)

-- it is no number
abbrev pub no_number : ℕ → List ℕ → Bool × Fault
no_number n line = (not (is_number (field n line)), at_field n Number)

-- its number does not lie from low to high
abbrev pub out_of_range : ℕ → ℕ → ℕ → List ℕ → Bool × Fault
out_of_range low high n line = (not (is_within low high (number (field n line))), at_field n Range)

-- its number is above that of field m
abbrev pub out_of_order : ℕ → ℕ → List ℕ → Bool × Fault
out_of_order n m line = (not (nat_le (number (field n line)) (number (field m line))), at_field n Order)
