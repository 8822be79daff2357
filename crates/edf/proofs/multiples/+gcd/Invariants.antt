-- `multiples::gcd` calls itself on the remainder, which is less than `b`.
use Rattle.edf.proofs.multiples.+gcd.Given as goal

abbrev pub decreases-gcd : goal.decreases-gcd
decreases-gcd l = l.b
