-- `any_order::either_grouping` meets its contract: union is associative.
use Rattle.std.proofs.Common.{rules}
use Rattle.cache.specs.Words.{members}
use Rattle.cache.proofs.SetLaws.{union_assoc}
use Rattle.laws.proofs.ReturnLaws.{both-give}
use Rattle.laws.proofs.any_order.either_grouping.Goals as goal

pub returns : goal.returns
returns c =
    both-give _ _ _ (search rules) (search rules)
    (rw (c.union.ensures, c.union-left.ensures))
    (rw (c.union-2.ensures, c.union-right.ensures, union_assoc (members c.args.a) (members c.args.b) (members c.args.c)))
