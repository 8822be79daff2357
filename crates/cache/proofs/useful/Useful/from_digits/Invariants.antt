-- `useful::Useful::from_digits`: the levels before l are made.
use Rattle.cache.specs.UsefulField.{counts_of}
use Rattle.cache.proofs.DigitLaws.{Leveling}
use Rattle.cache.proofs.useful.Useful.from_digits.Given as goal

abbrev pub invariant-loop-l : goal.invariant-loop-l
invariant-loop-l l = Leveling (counts_of l.field) l.l l.levels
