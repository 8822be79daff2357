-- `hasten::counted_at` meets its contract: a term that is not taken adds what it asks for, and any other adds nothing.
use Rattle.std.proofs.Common.{arith, le-leb}
use Rattle.std.proofs.lemmas.Bool.{lt-leb}
use Rattle.search.specs.Terms.{term_in}
use Rattle.search.specs.Demand.{work_of}
use Rattle.search.specs.Classes.{counted}
use Rattle.search.proofs.ClassLaws.{over_none, over-one, over-other}
use Rattle.search.proofs.hasten.counted_at.Goals as goal
use Rattle.search.proofs.hasten.counted_at.Goals.{then-classes-i-ge-COUNTED, else-classes-i-ge-COUNTED}

pub loop-i-init : goal.loop-i-init
loop-i-init c = omega (arith, over_none (counted c.args.classes.now) (λ j. work_of c.args.r (term_in c.args.terms.now j)))

pub loop-i-preserved : goal.loop-i-preserved
loop-i-preserved c =
    let one = over-one (counted c.args.classes.now) (λ j. work_of c.args.r (term_in c.args.terms.now j)) c.loop-i.i in
    let other = over-other (counted c.args.classes.now) (λ j. work_of c.args.r (term_in c.args.terms.now j)) c.loop-i.i in
    elim c.if-classes-i-ge-COUNTED.branch [
      | then-classes-i-ge-COUNTED w ↦ omega (arith, one (le-leb _ _ w.if-classes-i-ge-COUNTED.true), w.work-sum.ensures)
      | else-classes-i-ge-COUNTED w ↦ omega (arith, other (lt-leb _ _ w.if-classes-i-ge-COUNTED.false))
    ]
