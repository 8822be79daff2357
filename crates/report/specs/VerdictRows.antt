-- The answers that rows hold.
use Rattle.std.specs.Prelude.{ℕ, List, [], slice_index_or}
use Rattle.search.specs.declared.demand.Response.{Response}
use Rattle.search.specs.declared.demand.Response.TheVariants.{Within}
use Rattle.analysis.specs.declared.rows.Row.{Row}

-- what stands past the end of a row and of the rows: no statement rests on it
abbrev pub blank_answer : Response
blank_answer = Within (record { 0 = 0 })

abbrev pub blank_row : Row
blank_row = record { responses = [] }

-- a row's answer under method m
abbrev pub answer_under : Row → ℕ → Response
answer_under row m = slice_index_or row.responses m blank_answer

-- the answers of the rows: under method m, for the task at position i
abbrev pub answers_in : List Row → ℕ → ℕ → Response
answers_in rows m i = answer_under (slice_index_or rows i blank_row) m
