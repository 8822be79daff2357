-- A field of useful blocks is short.
use Rattle.std.proofs.Common.{length, ap, arith}
use Rattle.change_lines.proofs.Short.{useful-short}
use Rattle.change_lines.proofs.add_blocks.Goals as goal

pub write_useful-requires-clause-room : goal.write_useful-requires-clause-room
write_useful-requires-clause-room c =
    omega (arith, ap length c.new-draft.ensures, useful-short c.args.form c.args.sets c.args.blocks.now c.if-sets-le-MOST_SETS.true)
