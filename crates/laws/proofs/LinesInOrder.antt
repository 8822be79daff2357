-- The order of the lines is that of the priorities, and stays: with two of them changed round there are other answers.
use Rattle.std.proofs.Common.{◌≡◌, refl}
use Rattle.texts.specs.Cut.{up_to, lines}
use Rattle.texts.specs.Fields.{read_digits, read_number, has_shape, is_name}
use Rattle.cache.specs.Hex.{hex_digit, read_hex}
use Rattle.cache.specs.Field.{read_set}
use Rattle.cache.specs.Sets.{∅, ◌∪◌, ◌∩◌, size_below, size}
use Rattle.cache.specs.Counts.{nothing, of_set, ◌⊕◌, capped, ◌on◌, total_below, total}
use Rattle.cache.specs.Levels.{heights}
use Rattle.cache.specs.UsefulField.{read_useful, within_ways}
use Rattle.cache.specs.Words.{number_of, members, words_of}
use Rattle.texts.specs.Rows.{unless_fault}
use Rattle.table.specs.HeadLine.{is_head, read_form, head_in_range}
use Rattle.table.specs.TaskLine.{times_in_range, times_in_order, task_said, task_rows}
use Rattle.table.specs.Reading.{ended, first_blocked, unless_blocked, read_from, read_lines, read_text}
use Rattle.table.specs.Tables.{at}
use Rattle.search.specs.Demand.{demand_of}
use Rattle.search.specs.Least.{first_of, least_of}
use Rattle.search.specs.Positions.{run, fold_by}
use Rattle.analysis.specs.Costs.{reloads_with}
use Rattle.analysis.specs.Analysis.{counted_response, response_of}
use Rattle.writing.specs.Text.{digits_of, spelled}
use Rattle.report.specs.Verdicts.{verdict_line}
use Rattle.report.specs.Report.{response_line, report_of}
use Rattle.crpd.specs.Operations.{printed}
use Rattle.laws.specs.Lines.{as_given, report_as_given, changed_round, report_changed_round}

-- as given b has the response 5 and a has 2; changed round b has 3 and a has 5
pub lines-in-order : (printed as_given ≡ report_as_given) × (printed changed_round ≡ report_changed_round)
unfolding printed up_to lines read_digits read_number has_shape is_name hex_digit read_hex read_set ∅ ◌∪◌ ◌∩◌ size_below size number_of members words_of unless_fault head_in_range times_in_range times_in_order task_said task_rows ended first_blocked unless_blocked read_from read_lines read_text at demand_of first_of least_of run fold_by reloads_with counted_response response_of digits_of spelled response_line verdict_line report_of is_head read_form read_useful within_ways nothing of_set ◌⊕◌ capped ◌on◌ total_below total heights
lines-in-order = (refl, refl)
