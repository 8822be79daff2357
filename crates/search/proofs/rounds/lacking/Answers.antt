-- `rounds::lacking` meets its contract: a term that is in the round is short, and one that is not adds nothing.
use Rattle.std.proofs.Common.{length, arith, ◌≡◌, sym, ◌∙◌, ◌%◌, get_or}
use Rattle.search.specs.Terms.{term_in}
use Rattle.search.proofs.ShareLaws.{share-one}
use Rattle.search.proofs.RoundLaws.{both-equal, lacks-in_none, lacks-in-one, lacks-in-other}
use Rattle.search.proofs.rounds.lacking.Goals as goal
use Rattle.search.proofs.rounds.lacking.Goals.{then-is_in, else-is_in}

pub loop-i-init : goal.loop-i-init
loop-i-init c = lacks-in_none _ _ _ _ _ c.requires.4

pub add_term-requires : goal.add_term-requires
add_term-requires c =
    let p = c.requires in
    let r = p.0.ranged c.loop-i.i (omega arith) in
    let e : (get_or c.args.classes.now c.loop-i.i 0 ≡ c.args.round) × (c.args.ticks % (term_in c.args.terms.now c.loop-i.i).period.0 ≡ 0) =
    both-equal _ _ _ _ (sym c.is_in.ensures ∙ c.if-is_in.true) in (
      r.period,
      p.2.short c.loop-i.i (omega arith) (omega arith),
      r.jitter,
      omega (arith, c.share-q.ensures, share-one (term_in c.args.terms.now) (length c.args.terms.now) c.loop-i.i (omega arith)),
      p.4,
      record { long = c.loop-i.invariant.lacking.long; most = λ x l. omega (arith, p.0.few, c.loop-i.invariant.lacking.most x l) },
    )

pub loop-i-preserved : goal.loop-i-preserved
loop-i-preserved c = elim c.if-is_in.branch [
  | then-is_in w ↦ (
      let e = both-equal _ _ _ _ (sym c.is_in.ensures ∙ w.if-is_in.true) in
      rw w.lacks-is (lacks-in-one _ _ _ _ _ _ w.share-q.result _ _ e.0 e.1 w.share-q.ensures c.loop-i.invariant w.add_term.ensures))
  | else-is_in w ↦ rw w.lacks-is (lacks-in-other _ _ _ _ _ _ _ (sym c.is_in.ensures ∙ w.if-is_in.false) c.loop-i.invariant)
]
