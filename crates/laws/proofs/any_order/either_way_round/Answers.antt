-- `any_order::either_way_round` meets its contract: union is commutative.
use Rattle.std.proofs.Common.{◌∙◌, rules}
use Rattle.cache.proofs.SetLaws.{union_comm}
use Rattle.laws.proofs.ReturnLaws.{both-give}
use Rattle.laws.proofs.any_order.either_way_round.Goals as goal

pub returns : goal.returns
returns c = both-give _ _ _ (search rules) (search rules) c.union.ensures (c.union-2.ensures ∙ union_comm _ _)
