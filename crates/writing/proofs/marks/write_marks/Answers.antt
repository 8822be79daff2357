-- The digits of the four words, one after the other.
use Rattle.std.proofs.Common.{ap, arith, rules, length, length-append, append_assoc, ℕ}
use Rattle.writing.proofs.Digits.{digits_long, marks-cut, marks-long, words_long}
use Rattle.writing.proofs.marks.write_marks.Goals as goal

pub returns : goal.returns
returns c =
    let e = marks-cut c.args.sets c.args.marks c.requires.sets_bound (search rules) in
    rw (← e, c.hex-4.ensures, c.hex-3.ensures, c.hex-2.ensures, c.hex.ensures, c.push.ensures, c.words_of-words.ensures, c.bits_in.ensures.0, c.bits_in-2.ensures.0, c.bits_in-3.ensures.0, c.bits_in-4.ensures.0)
    (simp append_assoc)

pub hex-requires : goal.hex-requires
hex-requires c =
    omega (arith, words_long c.args.sets c.requires.sets_bound, marks-long c.args.sets c.args.marks, ap length c.push.ensures, length-append {A = ℕ})

pub hex-requires-2 : goal.hex-requires-2
hex-requires-2 c =
    omega (arith, digits_long, words_long c.args.sets c.requires.sets_bound, marks-long c.args.sets c.args.marks, ap length c.push.ensures, ap length c.hex.ensures, length-append {A = ℕ})

pub hex-requires-3 : goal.hex-requires-3
hex-requires-3 c =
    omega (arith, digits_long, words_long c.args.sets c.requires.sets_bound, marks-long c.args.sets c.args.marks, ap length c.push.ensures, ap length c.hex.ensures, ap length c.hex-2.ensures, length-append {A = ℕ})

pub hex-requires-4 : goal.hex-requires-4
hex-requires-4 c =
    omega (arith, digits_long, words_long c.args.sets c.requires.sets_bound, marks-long c.args.sets c.args.marks, ap length c.push.ensures, ap length c.hex.ensures, ap length c.hex-2.ensures, ap length c.hex-3.ensures, length-append {A = ℕ})
