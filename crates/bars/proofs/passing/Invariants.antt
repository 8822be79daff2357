use Rattle.std.specs.String.{string_bytes}
use Rattle.bars.proofs.Lists.{ListedTo}
use Rattle.bars.proofs.passing.Given as goal

abbrev pub invariant-loop-method : goal.invariant-loop-method
invariant-loop-method l = ListedTo l.passes (string_bytes l.names) l.method
