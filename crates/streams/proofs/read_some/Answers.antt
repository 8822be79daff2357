-- `read_some` meets its contract.
use Rattle.std.proofs.KnownBytes.{Keeps-trans}
use Rattle.streams.proofs.read_some.Goals as goal

pub returns-then-ne-clause-bytes : goal.returns-then-ne-clause-bytes
returns-then-ne-clause-bytes g c = Keeps-trans _ _ _ c.loop.invariant c.in-Err.ensures.bytes
