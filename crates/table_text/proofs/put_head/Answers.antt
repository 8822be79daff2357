-- Line 1 fits into a draft.
use Rattle.std.proofs.Common.{List, ℕ, ◌++◌, ap, arith, ◌∙◌}
use Rattle.table_text.specs.TableText.{head_fields, line_text}
use Rattle.table_text.proofs.Lengths.{head-fits}
use Rattle.table_text.proofs.put_head.Goals as goal

pub write_head-requires : goal.write_head-requires
write_head-requires c = rw c.new-draft.ensures (omega (arith, head-fits c.args.accepted.table.now c.args.accepted.accepted))

pub put_at-requires : goal.put_at-requires
put_at-requires c =
    let t = c.args.accepted.table.now in
    let is = c.text.ensures ∙ c.write_head.ensures ∙ ap (λ (d : List ℕ). d ++ line_text (head_fields t.sets t.brt.0 t.form)) c.new-draft.ensures in
    rw is (omega (arith, c.requires))

pub returns : goal.returns
returns c = rw (c.text.ensures, c.write_head.ensures, c.new-draft.ensures) at c.put_at.ensures
