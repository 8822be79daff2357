-- `grouping::gcd` ends: the remainder is below the number that it is taken by.
use Rattle.search.proofs.grouping.+gcd.Given as goal

abbrev pub decreases-gcd : goal.decreases-gcd
decreases-gcd l = l.b
