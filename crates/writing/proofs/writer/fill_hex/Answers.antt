-- One digit more.
use Rattle.std.proofs.Common.{ℕ, ◌≡◌, refl, ◌*◌, ◌/◌, ◌^◌, ◌+◌, ◌-◌, ◌<◌, ◌≤◌, length, arith, ap, sym, ◌∙◌, div-one, add-one}
use Rattle.std.proofs.Math.ListN.{length-set}
use Rattle.std.proofs.Math.Seq.{take_all, take-suc-set}
use Rattle.writing.specs.Text.{hex_digits}
use Rattle.writing.proofs.Spelling.{hex_more}
use Rattle.writing.proofs.writer.fill_hex.Goals as goal

pub loop-k-init : goal.loop-k-init
unfolding hex_digits
loop-k-init c = record { filled = refl; long = refl }

pub loop-k-preserved : goal.loop-k-preserved
loop-k-preserved c =
    let l = c.loop-k in
    let below = length c.args.places.now - 1 - l.k in
    let before : length c.args.places.now - l.k ≡ below + 1 = omega arith in
    let after : length c.args.places.now - (l.k + 1) ≡ below = omega arith in
    let here : l.k < length l.places = omega (arith, l.invariant.long) in
    record {
      filled = rw (after, add-one l.k, take-suc-set l.places l.k _ here, rw before at l.invariant.filled, c.hex_byte.ensures)
          (hex_more l.k c.args.word below ∙ ap (λ (n : ℕ). hex_digits n (c.args.word / 2 ^ (4 * below))) (add-one l.k));
      long = simp length-set l.invariant.long;
    }

pub returns : goal.returns
returns c =
    let l = c.loop-k in
    let none : length c.args.places.now - l.k ≡ 0 = omega arith in
    let all : l.k ≡ length c.args.places.now = omega arith in
    let whole : length l.places ≤ l.k = omega (arith, l.invariant.long) in
    sym (take_all l.k l.places whole) ∙ (rw (none, div-one) at l.invariant.filled) ∙ ap (λ (n : ℕ). hex_digits n c.args.word) all
