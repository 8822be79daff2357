-- The same way where line 1 names the ways: table A in the counted form with 1 way, and a count above the ways, which is refused with 18.
use Rattle.std.proofs.Common.{◌≡◌, refl, ℕ, List, ◌++◌, codes}
use Rattle.texts.specs.Cut.{up_to, lines}
use Rattle.texts.specs.Fields.{read_digits, read_number, has_shape, is_name}
use Rattle.cache.specs.Hex.{hex_digit, read_hex}
use Rattle.cache.specs.Field.{read_set}
use Rattle.cache.specs.Sets.{∅, ◌∪◌, ◌∩◌, size_below, size}
use Rattle.cache.specs.Counts.{nothing, of_set, ◌⊕◌, capped, ◌on◌, total_below, total}
use Rattle.cache.specs.Levels.{heights, above, number_below}
use Rattle.cache.specs.UsefulField.{push, read_counts, read_useful, within_ways}
use Rattle.cache.specs.Words.{number_of, members, words_of}
use Rattle.texts.specs.Rows.{unless_fault}
use Rattle.table.specs.HeadLine.{is_head, read_form, head_in_range}
use Rattle.table.specs.TaskLine.{times_in_range, times_in_order, task_said, task_rows}
use Rattle.table.specs.Reading.{ended, first_blocked, unless_blocked, read_from, read_lines, read_text}
use Rattle.table.specs.Tables.{at}
use Rattle.search.specs.Demand.{demand_of}
use Rattle.search.specs.Least.{first_of, least_of}
use Rattle.search.specs.Positions.{run, fold_by}
use Rattle.analysis.specs.Costs.{reloads_with}
use Rattle.analysis.specs.Analysis.{counted_response, response_of}
use Rattle.writing.specs.Text.{digits_of, spelled}
use Rattle.report.specs.Verdicts.{verdict_line}
use Rattle.report.specs.Report.{response_line, report_of}
use Rattle.writing.specs.Error.{error_text}
use Rattle.crpd.specs.Operations.{printed}

-- table A in the counted form
abbrev pub counted : List ℕ
counted =
    codes "K\t4\t1\t1\n"
    ++ codes "T\ta\t1\t20\t20\t0\t0\t0000\tf\n"
    ++ codes "T\tb\t2\t40\t40\t0\t0\t0011\tf\n"
    ++ codes "T\tc\t2\t60\t60\t0\t0\t1100\tf\n"

-- the report of table A
pub printed-of-counted-a : printed counted ≡
    codes "R\ta\t20\t1\t1\t1\t1\t1\t1\n"
    ++ codes "R\tb\t40\t3\t7\t5\t5\t5\t5\n"
    ++ codes "R\tc\t60\t5\t13\t9\t11\t9\t9\n"
    ++ codes "V\tyes\tyes\tyes\tyes\tyes\tyes\n"
unfolding printed up_to lines read_digits read_number has_shape is_name hex_digit read_hex read_set ∅ ◌∪◌ ◌∩◌ size_below size number_of members words_of unless_fault head_in_range times_in_range times_in_order task_said task_rows ended first_blocked unless_blocked read_from read_lines read_text at demand_of first_of least_of run fold_by reloads_with counted_response response_of digits_of spelled response_line verdict_line report_of is_head read_form read_useful within_ways nothing of_set ◌⊕◌ capped ◌on◌ total_below total heights push read_counts above number_below
printed-of-counted-a = refl

-- a cache set that has 3 useful blocks, and 2 ways
abbrev pub above_ways : List ℕ
above_ways =
    codes "K\t4\t1\t2\n"
    ++ codes "T\ta\t1\t20\t20\t0\t0\t0000\tf\n"
    ++ codes "T\tb\t2\t40\t40\t0\t0\t0013\tf\n"

-- refused with 18, and line 3 is told
pub count-above-ways : printed above_ways ≡ codes "E\t18\t3\n"
unfolding printed up_to lines read_digits read_number has_shape is_name hex_digit read_hex read_set ∅ ◌∪◌ ◌∩◌ size_below size number_of members words_of unless_fault head_in_range times_in_range times_in_order task_said task_rows ended first_blocked unless_blocked read_from read_lines read_text at demand_of first_of least_of run fold_by reloads_with counted_response response_of digits_of spelled response_line verdict_line report_of is_head read_form read_useful within_ways nothing of_set ◌⊕◌ capped ◌on◌ total_below total heights push read_counts above number_below error_text
count-above-ways = refl
