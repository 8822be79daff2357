-- `marks::write_counts` meets its contract.
use Rattle.std.proofs.Common.{ℕ, List, ◌≡◌, ◌-◌, ◌+◌, ◌++◌, [], ◌∷◌, refl, sym, ap, ◌∙◌, arith, length, length-append, append-nil, append_assoc}
use Rattle.cache.specs.Levels.{counts}
use Rattle.writing.specs.Marks.{count_digits}
use Rattle.writing.proofs.CountDigits.{counts-long, digit-front, digits-none}
use Rattle.writing.proofs.marks.write_counts.Goals as goal

pub loop-s-init : goal.loop-s-init
loop-s-init c = refl

pub push-requires : goal.push-requires
push-requires c =
    omega (
      arith,
      ap length c.loop-s.invariant,
      length-append {A = ℕ},
      counts-long c.loop-s.s (counts c.args.ways c.args.useful.now),
      c.requires.room,
    )

pub loop-s-preserved : goal.loop-s-preserved
loop-s-preserved c =
    let U = counts c.args.ways c.args.useful.now in
    let j = c.loop-s.s - 1 in
    let e : c.loop-s.s ≡ j + 1 = omega arith in
    rw (c.push.ensures, c.count.ensures.count)
    (append_assoc c.loop-s.draft ((48 + U j) ∷ []) (count_digits j U)
    ∙ ap (λ (l : List ℕ). c.loop-s.draft ++ l) (sym (digit-front j c.loop-s.s U e))
    ∙ c.loop-s.invariant)

pub returns : goal.returns
returns c =
    let U = counts c.args.ways c.args.useful.now in
    let e : c.loop-s.s ≡ 0 = omega arith in
    sym (append-nil _) ∙ ap (λ (l : List ℕ). c.loop-s.draft ++ l) (sym (digits-none U)) ∙ rw e at c.loop-s.invariant
