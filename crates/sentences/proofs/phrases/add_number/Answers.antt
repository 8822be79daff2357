-- A number of 64 bits has at most 20 digits.
use Rattle.std.proofs.Common.{ap, length, arith, rules}
use Rattle.writing.proofs.Spelling.{spelled_short}
use Rattle.sentences.proofs.phrases.add_number.Goals as goal

pub write-requires : goal.write-requires
write-requires c = omega (arith, spelled_short 19 c.args.number (search rules), ap length c.new-draft.ensures)
