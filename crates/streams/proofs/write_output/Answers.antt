-- `write_output` meets its contract.
use Rattle.std.proofs.Common.{rules}
use Rattle.streams.proofs.Streams.{more_written, on_error, less_written, all_written}
use Rattle.streams.proofs.write_output.Goals as goal

pub loop-len-preserved : goal.loop-len-preserved
loop-len-preserved g c = (
  search rules,
  more_written _ _ _ c.args.bytes.now c.loop-len.len c.in_ok-len.field-0 c.loop-len.invariant.0 c.loop-len.invariant.1 c.in_ok-len.ensures.bytes,
)

pub returns-clause-whole : goal.returns-clause-whole
returns-clause-whole g c = all_written _ _ c.args.bytes.now c.loop-len.len c.loop-len-test.false c.loop-len.invariant.1

pub returns-in_err-len-clause-part : goal.returns-in_err-len-clause-part
returns-in_err-len-clause-part g c =
    on_error _ _ (less_written _ _ _ c.args.bytes.now c.loop-len.len c.loop-len-test.true c.loop-len.invariant.1 c.in_err-len.ensures.bytes)
