-- `rounds::left_by_taken` meets its contract: a term that is taken adds its share, and any other adds nothing.
use Rattle.std.proofs.Common.{arith, lt-ltb, le-ltb}
use Rattle.search.specs.Terms.{term_in}
use Rattle.search.specs.Shares.{share_of}
use Rattle.search.specs.Classes.{taken}
use Rattle.search.proofs.ClassLaws.{over_none, over-one, over-other}
use Rattle.search.proofs.rounds.left_by_taken.Goals as goal
use Rattle.search.proofs.rounds.left_by_taken.Goals.{then-classes-i-lt-COUNTED, else-classes-i-lt-COUNTED}

pub loop-i-init : goal.loop-i-init
loop-i-init c = omega (arith, over_none (taken c.args.classes.now) (λ j. share_of (term_in c.args.terms.now j)))

pub loop-i-preserved : goal.loop-i-preserved
loop-i-preserved c =
    let one = over-one (taken c.args.classes.now) (λ j. share_of (term_in c.args.terms.now j)) c.loop-i.i in
    let other = over-other (taken c.args.classes.now) (λ j. share_of (term_in c.args.terms.now j)) c.loop-i.i in
    elim c.if-classes-i-lt-COUNTED.branch [
      | then-classes-i-lt-COUNTED w ↦ omega (arith, one (lt-ltb _ _ w.if-classes-i-lt-COUNTED.true))
      | else-classes-i-lt-COUNTED w ↦ omega (arith, other (le-ltb _ _ w.if-classes-i-lt-COUNTED.false))
    ]
