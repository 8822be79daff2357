-- The parts are as long as the fields of the line.
use Rattle.std.proofs.Common.{arith}
use Rattle.writing.proofs.Digits.{marks-long}
use Rattle.table_text.proofs.Lengths.{task-length}
use Rattle.table_text.proofs.extent.task_len.Goals as goal

pub returns-clause-is : goal.returns-clause-is
returns-clause-is c =
    omega (arith, task-length c.args.form c.args.sets c.args.task.now, c.useful_len.ensures.is c.args.task.now.ucb, marks-long c.args.sets c.args.task.now.ecb)
