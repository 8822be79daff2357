-- `write_some` meets its contract.
use Rattle.std.proofs.Common.{arith}
use Rattle.std.proofs.KnownBytes.{Keeps-trans}
use Rattle.streams.proofs.Streams.{none_written}
use Rattle.streams.proofs.write_some.Goals as goal

pub returns-in-Ok-eq0-clause-bytes : goal.returns-in-Ok-eq0-clause-bytes
returns-in-Ok-eq0-clause-bytes g c = Keeps-trans _ _ _ c.loop.invariant (none_written _ _ c.args.bytes.now c.in-Ok-eq0.field-0 (omega arith) c.in-Ok-eq0.ensures.bytes)
