-- `response::asked` meets its contract: the sum is what the counts before i ask for, and at most a bound for each.
use Rattle.std.proofs.Common.{arith}
use Rattle.search.proofs.CountLaws.{asks-kept, asked-none, asked-next}
use Rattle.search.proofs.response.asked.Goals as goal

pub loop-i-init : goal.loop-i-init
loop-i-init c = omega (arith, asked-none)

pub overflow_mul-sum : goal.overflow_mul-sum
overflow_mul-sum c = omega (arith, asks-kept c.requires.0 c.requires.1 c.loop-i.i (omega arith))

pub overflow_add-sum : goal.overflow_add-sum
overflow_add-sum c = omega (arith, asks-kept c.requires.0 c.requires.1 c.loop-i.i (omega arith))

pub loop-i-preserved : goal.loop-i-preserved
loop-i-preserved c = omega (arith, asks-kept c.requires.0 c.requires.1 c.loop-i.i (omega arith), asked-next)
