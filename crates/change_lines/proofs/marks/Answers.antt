-- A field of marks is short.
use Rattle.std.proofs.Common.{length, ap, arith}
use Rattle.writing.proofs.Digits.{marks-long}
use Rattle.change_lines.proofs.marks.Goals as goal

pub write_marks-requires-clause-room : goal.write_marks-requires-clause-room
write_marks-requires-clause-room c =
    omega (arith, ap length c.new-draft.ensures, marks-long c.args.sets c.args.set, c.if-sets-le-MOST_SETS.true)
