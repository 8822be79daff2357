-- `rounds::make` meets its contract: the rounds together ask for what each does.
use Rattle.std.proofs.Common.{length, ◌≡◌, ◌+◌, ◌-◌, arith, get_or, below_more}
use Rattle.search.specs.Terms.{term_in}
use Rattle.search.specs.Classes.{taken}
use Rattle.search.specs.Rounds.{Windowed}
use Rattle.search.proofs.ClassLaws.{shares-over, ask-none, ask-next, ask-up}
use Rattle.search.proofs.RoundLaws.{windowed-stands}
use Rattle.search.proofs.rounds.make.Goals as goal

pub loop-v-init : goal.loop-v-init
loop-v-init c = record {
  long = c.requires.2;
  low = omega arith;
  asked = λ s. ask-none c.choose-made.new.classes (term_in c.args.terms.now) (length c.args.terms.now) s;
  windowed = λ w l. absurd (omega arith);
}

pub loop-v-preserved : goal.loop-v-preserved
loop-v-preserved c =
    let d = c.tabulate-low.ensures in
    let i = c.loop-v.invariant in record {
      long = d.long;
      low = omega (arith, d.low-most);
      asked = λ s. ask-next c.choose-made.new.classes (term_in c.args.terms.now) (length c.args.terms.now) s c.loop-v.v _ _ (i.asked s) (d.low-asked s);
      windowed = below_more (λ w. Windowed (term_in c.args.terms.now) (length c.args.terms.now) c.choose-made.new.classes w (get_or c.choose-made.new.ticks w 0) c.tabulate-low.new.entries) c.loop-v.v
          (λ w l. windowed-stands (λ i m. d.others i (omega arith)) (i.windowed w l))
          d.windowed;
    }

pub returns : goal.returns
returns c =
    let i = c.loop-v.invariant in
    let p = c.requires in
    let q = c.choose-made.ensures in
    let part = shares-over (taken c.choose-made.new.classes) (term_in c.args.terms.now) (length c.args.terms.now) in
    let nine : c.loop-v.v + (9 - c.loop-v.v) ≡ 9 = omega arith in record {
      classes-long = q.taken.long;
      ticks-long = q.ticks-long;
      long = i.long;
      few = q.few;
      windowed = λ v l. i.windowed v (omega arith);
      free-is = omega (arith, c.left_by_taken-free.ensures, part);
      free-least = omega (arith, c.left_by_taken-free.ensures, part);
      low-most = omega arith;
      low-asked = λ s. rw nine at (ask-up c.choose-made.new.classes (term_in c.args.terms.now) (length c.args.terms.now) s c.loop-v.v (9 - c.loop-v.v) c.loop-v.low p.0.ranged (i.asked s));
    }
