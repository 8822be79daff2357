-- A table that was read is accepted.
use Rattle.std.proofs.Common.{sym}
use Rattle.bench_parts.proofs.bench_rewrite.Goals as goal

pub rewrite-requires : goal.rewrite-requires
rewrite-requires c = (c.args.text.now, sym c.in-Ok.ensures.read)
