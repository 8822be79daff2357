use Rattle.std.proofs.Common.{rules, ◌≡◌, sym, Some, ◌∙◌}
use Rattle.cache.specs.Hex.{hex_digit}
use Rattle.cache.proofs.HexLaws.{begin, ended, no_digit, room, one_more, digit_lt}
use Rattle.cache.proofs.ShiftLaws.{shift_in}
use Rattle.cache.proofs.hex_digits.read_word.Goals as goal

pub loop-b-init : goal.loop-b-init
loop-b-init c = begin _

pub returns-in_err-digit : goal.returns-in_err-digit
returns-in_err-digit c = c.from_residual.ensures ∙ sym (no_digit c.loop-b.invariant c.loop-b-test.true (sym c.in_err-digit.ensures))

pub loop-b-preserved : goal.loop-b-preserved
loop-b-preserved c =
    let r = c.loop-b.invariant in
    let e : hex_digit _ ≡ Some _ = sym c.in_ok-digit.ensures in
    rw (shift_in _ _ (room r c.loop-b-test.true c.requires) (digit_lt _ _ e)) (one_more r c.loop-b-test.true _ e)

pub returns : goal.returns
returns c = sym (ended c.loop-b.invariant (search rules))
