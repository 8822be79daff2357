use Rattle.std.proofs.Common.{◌≡◌, length, arith, rules}
use Rattle.aligned.proofs.Columns.{column-more, line-done}
use Rattle.aligned.proofs.add_line.Goals as goal

pub loop-k-preserved : goal.loop-k-preserved
loop-k-preserved c =
    let eight : length c.args.line.now ≡ 8 = search rules in
    column-more c.args.colours c.args.widths.now c.args.line.now _ c.loop-k.out.items c.add_cell.new.out.items c.loop-k.k _ (omega arith) (omega arith) c.in_ok-add_cell.ensures c.loop-k.invariant

pub returns : goal.returns
returns c =
    line-done c.args.colours c.args.widths.now c.args.line.now _ c.loop-k.out.items c.push.new.self.items c.loop-k.k (omega arith) c.loop-k.invariant (search rules)
