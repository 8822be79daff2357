-- What the tests mean.
use Rattle.std.proofs.Common.{sym, ◌∙◌}
use Rattle.table_text.proofs.RoundTrip.{meant, lines-bounds, lines-known}
use Rattle.table_text.proofs.readable.is_readable.Goals as goal

pub length-requires-clause-bounds : goal.length-requires-clause-bounds
length-requires-clause-bounds c = lines-bounds c.args.table.now (sym c.has_lines.ensures.test ∙ c.if-has_lines.true)

pub length-requires-clause-known : goal.length-requires-clause-known
length-requires-clause-known c = lines-known c.args.table.now (sym c.has_lines.ensures.test ∙ c.if-has_lines.true)

pub returns-then-has_lines-clause-meant : goal.returns-then-has_lines-clause-meant
returns-then-has_lines-clause-meant c =
    let e = sym c.has_lines.ensures.test ∙ c.if-has_lines.true in
    meant c.args.table.now c.has_lines.ensures.whole _ (rw (e, c.length.ensures))

pub returns-else-has_lines-clause-meant : goal.returns-else-has_lines-clause-meant
returns-else-has_lines-clause-meant c =
    let e = sym c.has_lines.ensures.test ∙ c.if-has_lines.false in
    meant c.args.table.now c.has_lines.ensures.whole _ (rw e c.if-has_lines.false)
