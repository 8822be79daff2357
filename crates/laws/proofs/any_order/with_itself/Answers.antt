-- `any_order::with_itself` meets its contract: union is idempotent.
use Rattle.std.proofs.Common.{refl, ◌∙◌, rules}
use Rattle.cache.proofs.SetLaws.{union_self}
use Rattle.laws.proofs.ReturnLaws.{both-give}
use Rattle.laws.proofs.any_order.with_itself.Goals as goal

pub returns : goal.returns
returns c = both-give _ _ _ (search rules) (search rules) (c.union.ensures ∙ union_self _) refl
