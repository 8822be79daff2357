-- At `short` the text fits, or it is 0, and at `long`, which is above it, it does not.
use Rattle.std.proofs.Common.{◌-◌}
use Rattle.growth.specs.Tried.{text_fits}
use Rattle.growth.proofs.BoundLaws.{Spans}
use Rattle.growth.proofs.texts_up_to.Given as goal

abbrev pub invariant-loop-short : goal.invariant-loop-short
invariant-loop-short l = Spans (text_fits l.table) l.most l.short l.long

abbrev pub decreases-loop-short : goal.decreases-loop-short
decreases-loop-short l = l.long - l.short
