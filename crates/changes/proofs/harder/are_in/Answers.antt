-- All of it is in the second; or the first that is not.
use Rattle.std.proofs.Common.{sym, arith, not, ◌||◌}
use Rattle.cache.specs.Words.{members}
use Rattle.changes.proofs.Below.{fails_below, implies-fails}
use Rattle.changes.proofs.Levels.{sets_in}
use Rattle.changes.proofs.harder.are_in.Goals as goal

pub returns-then-is_in : goal.returns-then-is_in
returns-then-is_in c = sym (sets_in (members c.args.first) (members c.args.second) (c.is_in.ensures.meant c.if-is_in.true))

pub returns-then-not-has : goal.returns-then-not-has
returns-then-not-has c =
    sym
    (fails_below 256 c.loop-s.s (λ s. not (members c.args.first s) || members c.args.second s) (omega arith)
    (implies-fails _ _ c.if-has.ensures c.if-not-has.ensures))
