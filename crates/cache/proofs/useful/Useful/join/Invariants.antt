-- `useful::Useful::join`: the levels before k are put in.
use Rattle.std.proofs.Common.{◌≡◌}
use Rattle.cache.specs.Counts.{◌⊕◌, capped}
use Rattle.cache.specs.Levels.{counts}
use Rattle.cache.proofs.useful.Useful.join.Given as goal

abbrev pub invariant-loop-k : goal.invariant-loop-k
invariant-loop-k l = counts l.fn.ways l.self ≡ capped l.fn.ways (counts l.fn.ways l.fn.self ⊕ counts l.k l.other)
