-- `growth::texts_up_to` meets its contract.
use Rattle.std.proofs.Common.{arith, sym, ◌∙◌, length-take}
use Rattle.table_text.proofs.Lengths.{accesses-known}
use Rattle.table_text.proofs.RoundTrip.{readable-short}
use Rattle.growth.proofs.TriedLaws.{readable-table}
use Rattle.growth.proofs.ScaledLengths.{text-grows, texts-all, texts-some, texts-descend}
use Rattle.growth.proofs.BoundLaws.{bounds-all, spans-none}
use Rattle.growth.proofs.texts_up_to.Goals as goal

pub length-requires-clause-bounds : goal.length-requires-clause-bounds
length-requires-clause-bounds c = let a = readable-table _ c.requires.0 in (a.sets.1, a.few, a.few-accesses)

pub length-requires-clause-known : goal.length-requires-clause-known
length-requires-clause-known c = accesses-known c.args.table.now (readable-table _ c.requires.0)

pub overflow_mul-table : goal.overflow_mul-table
overflow_mul-table c = omega (arith, (readable-table _ c.requires.0).few)

pub overflow_add-length : goal.overflow_add-length
overflow_add-length c = omega (arith, readable-short c.args.table.now c.requires.0, (readable-table _ c.requires.0).few)

pub returns-then-length-table-le-LONGEST_TEXT : goal.returns-then-length-table-le-LONGEST_TEXT
returns-then-length-table-le-LONGEST_TEXT c =
    let t = c.args.table.now in
    texts-all t c.args.most (omega (arith, text-grows t c.args.most c.requires.2 (omega (arith, length-take t.count t.tasks))))

pub returns-then-text_fits : goal.returns-then-text_fits
returns-then-text_fits c = bounds-all _ _ (texts-descend c.args.table.now c.args.most) (sym c.text_fits.ensures ∙ c.if-text_fits.true)

pub loop-short-init : goal.loop-short-init
loop-short-init c =
    let fails = sym c.text_fits.ensures ∙ c.if-text_fits.false in
    record { under = texts-some c.args.table.now c.args.most c.requires.0 fails; most = omega arith; passes = λ h. absurd (omega (arith, h)); fails = fails }

pub returns : goal.returns
returns c = spans-none _ _ _ _ (texts-descend c.args.table.now c.args.most) c.loop-short.invariant (omega arith)
