-- `sets::CacheSet::has` meets its contract.
use Rattle.std.proofs.Common.{ℕ, ◌/◌, ◌%◌, ◌^◌, ap, ◌∙◌, eqb, rules}
use Rattle.cache.proofs.BitLaws.{member-at}
use Rattle.cache.proofs.sets.CacheSet.has.Goals as goal

pub returns : goal.returns
returns c = ap (λ (x : ℕ). eqb (x / 2 ^ (c.args.s % 64) % 2) 1) c.word.ensures ∙ member-at c.args.self c.args.s (search rules) c.requires
