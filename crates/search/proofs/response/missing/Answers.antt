-- `response::missing` meets its contract: the first activation that is missing is all, or the others are divided for.
use Rattle.std.proofs.Common.{arith}
use Rattle.search.proofs.CountLaws.{missing-most, missing-after, missing-one}
use Rattle.search.proofs.response.missing.Goals as goal

pub returns-then-r-reached : goal.returns-then-r-reached
returns-then-r-reached c =
    (missing-one _ c.args.end c.args.r c.requires.0 _ c.one_if-one.ensures.0 (omega arith), omega (arith, c.one_if-one.ensures.1))

pub returns : goal.returns
returns c =
    let e = missing-after c.args.period c.args.end c.args.r c.requires.0 c.one_if-one.result (omega arith) in
    (e, rw e (omega (arith, missing-most c.args.period c.args.end c.args.r c.requires.0)))
