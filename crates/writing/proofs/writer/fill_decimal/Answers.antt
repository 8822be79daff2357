-- One digit more.
use Rattle.std.proofs.Common.{◌≡◌, ◌+◌, ◌-◌, ◌<◌, length, arith, ◌∙◌, append-nil, refl}
use Rattle.std.proofs.Math.ListN.{length-set}
use Rattle.std.proofs.Math.Seq.{drop-length}
use Rattle.writing.proofs.Spelling.{decimal_digits, decimal_more, spelled_digits}
use Rattle.writing.proofs.writer.fill_decimal.Goals as goal

pub loop-k-init : goal.loop-k-init
loop-k-init c = record { filled = rw drop-length (append-nil _ ∙ rw c.requires (spelled_digits c.args.n)); long = refl }

pub loop-k-preserved : goal.loop-k-preserved
loop-k-preserved c =
    let l = c.loop-k in
    let e : l.k - 1 + 1 ≡ l.k = omega arith in
    let here : l.k - 1 < length l.places = omega (arith, l.invariant.long) in
    record { filled = decimal_more l.places (l.k - 1) l.left here ∙ rw e l.invariant.filled; long = simp length-set l.invariant.long }

pub returns : goal.returns
unfolding decimal_digits
returns c =
    let z : c.loop-k.k ≡ 0 = omega arith in
    rw z at c.loop-k.invariant.filled
