-- A character less each time.
use Rattle.std.proofs.Common.{◌≡◌, ap, ◌∙◌, drop, arith}
use Rattle.std.specs.Str.{chars, encode_utf8_all}
use Rattle.drawn.proofs.Texts.{left-more, left-done}
use Rattle.bars.proofs.without.Goals as goal

pub loop-k-preserved : goal.loop-k-preserved
loop-k-preserved c = left-more _ _ _ _ _ c.next.ensures.steps c.loop-k.invariant

pub returns : goal.returns
returns c =
    let all : c.loop-k._k ≡ c.args.count = omega (arith, c.loop-k.auto._k-end, c.loop-k-test.false) in
    c.as_str.ensures ∙ left-done _ _ _ c.loop-k.invariant ∙ ap (λ n. encode_utf8_all (drop n (chars c.args.text.now))) all
