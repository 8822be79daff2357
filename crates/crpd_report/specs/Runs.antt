-- What becomes of the bytes in a whole run, where it is known which the reader has left and which the writer holds. Of a stream whose bytes are not known nothing is
-- said.
use Rattle.std.specs.Prelude.{ℕ, ◌+◌, ◌≡◌, List, take, Option, Result, Ok, Err}
use Rattle.table.specs.declared.TheConstants.Table.{LONGEST_TEXT}
use Rattle.std.specs.Io.KnownBytes.{Appends, Consumes, Keeps}
use Rattle.crpd.specs.declared.Outcome.{Outcome}
use Rattle.crpd.specs.Operations.{printed, outcome_to}
use Rattle.streams.specs.Bytes.{ConsumesLess, AppendsPart}
use Rattle.crpd_report.specs.declared.Failure.{Failure}
use Rattle.crpd_report.specs.declared.Failure.TheVariants.{Read, Write}

-- what was written of what is printed of a text: all of it, and how it went is told; where a write failed a part of it; where a read failed nothing
abbrev pub Prints : List ℕ → Option (List ℕ) → Option (List ℕ) → Result Outcome Failure → Type 0
Prints text before after (Ok outcome) = (outcome ≡ outcome_to text) × Appends before after (printed text)
Prints text before after (Err (Write e)) = AppendsPart before after (printed text)
Prints text before after (Err Read) = Keeps before after

-- what was read of it: as many bytes as tell that it is too long, or all where it has no more; where a read failed fewer
abbrev pub Reads : List ℕ → Option (List ℕ) → Option (List ℕ) → Result Outcome Failure → Type 0
Reads text before after (Ok outcome) = Consumes before after (take (LONGEST_TEXT + 1) text)
Reads text before after (Err (Write e)) = Consumes before after (take (LONGEST_TEXT + 1) text)
Reads text before after (Err Read) = ConsumesLess (LONGEST_TEXT + 1) before after
