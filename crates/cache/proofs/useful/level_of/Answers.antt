-- `useful::level_of` meets its contract: its digits word by word.
use Rattle.std.proofs.Common.{rules, arith}
use Rattle.cache.proofs.DigitLaws.{first_word, word_more, level-of}
use Rattle.cache.proofs.useful.level_of.Goals as goal

pub returns : goal.returns
returns c =
    let w3 = first_word _ _ _ _ (omega arith) (omega arith) c.word_above.ensures in
    let w2 = word_more w3 (omega arith) (omega arith) _ c.word_above-2.ensures in
    let w1 = word_more w2 (omega arith) (omega arith) _ c.word_above-3.ensures in
    let w0 = word_more w1 (omega arith) (omega arith) _ c.word_above-4.ensures in
    level-of w0 (omega arith) _ (search rules) c.of_words.ensures (c.requires.0)
