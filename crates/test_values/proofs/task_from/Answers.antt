-- The words are those from 16 on.
use Rattle.test_values.specs.Values.{task_from}
use Rattle.test_values.proofs.Rest.{rest_of}
use Rattle.test_values.proofs.task_from.Goals as goal

pub returns : goal.returns
unfolding task_from
returns c = cc (rest_of c.args.numbers.now 16)
