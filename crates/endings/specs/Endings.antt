-- How a command ends, by what it found.
use Rattle.std.specs.Prelude.{ℕ, Bool, true, false, nat_lt, if◌then◌else◌}
use Rattle.endings.specs.declared.Ending.{Ending}
use Rattle.endings.specs.declared.Ending.TheVariants.{Given, NoResponse, Refused, WrongUse, Failed}

-- the exit status
abbrev pub status_of : Ending → ℕ
status_of Given = 0
status_of NoResponse = 1
status_of Refused = 2
status_of WrongUse = 3
status_of Failed = 4

-- where results are given: whether each task asked for has a response
abbrev pub ending_of : Bool → Ending
ending_of true = Given
ending_of false = NoResponse

-- the worse of two: that of the higher status
abbrev pub worse_of : Ending → Ending → Ending
worse_of one other = if nat_lt (status_of one) (status_of other) then other else one
