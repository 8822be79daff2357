-- The greatest divisor is not 0, and the quotient is no larger than the first number.
use Rattle.std.proofs.Common.{arith}
use Rattle.edf.specs.Multiples.{lcm_of}
use Rattle.edf.proofs.MultiplesLaws.{gcd-pos, lcm-bound, least-is}
use Rattle.edf.proofs.multiples.lcm.Goals as goal

pub nonzero_div-result : goal.nonzero_div-result
nonzero_div-result c = rw c.gcd.ensures.value (gcd-pos _ _ c.requires.0)

pub returns-clause-value : goal.returns-clause-value
unfolding lcm_of
returns-clause-value c = rw c.gcd.ensures.value

pub overflow_mul-result : goal.overflow_mul-result
overflow_mul-result c =
    omega (arith, returns-clause-value c, lcm-bound c.args.a c.args.b 250000000 250000000 c.requires.1 c.requires.2)

pub returns-clause-least : goal.returns-clause-least
returns-clause-least c = least-is _ _ _ c.requires.0 (returns-clause-value c)
