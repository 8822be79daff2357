-- A byte more at each k, and at 12 the whole name.
use Rattle.std.proofs.Common.{◌≡◌, refl, sym, ◌∙◌, arith}
use Rattle.std.proofs.Math.ListN.{length-set}
use Rattle.std.proofs.Math.Seq.{take_all}
use Rattle.search.specs.Positions.{run}
use Rattle.report.proofs.Lists.{filled_more}
use Rattle.test_values.specs.Values.{task_from}
use Rattle.test_values.proofs.name_from.Invariants.{byte_of}
use Rattle.test_values.proofs.name_from.Goals as goal

pub loop-k-init : goal.loop-k-init
unfolding run
loop-k-init c = (refl, refl)

pub loop-k-preserved : goal.loop-k-preserved
loop-k-preserved c =
    let at = c.loop-k in (
      filled_more (byte_of c.args.numbers.now) at.bytes at.k _ (omega arith) refl at.invariant.0,
      length-set at.bytes at.k _ ∙ at.invariant.1,
    )

pub returns : goal.returns
unfolding task_from
returns c =
    let at = c.loop-k in
    let all : at.k ≡ 12 = omega arith in
    let whole = sym (take_all 12 at.bytes (omega arith)) ∙ (rw all at at.invariant.0) in
    cc whole
