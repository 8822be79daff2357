-- `analysis::by_charges` meets its contract.
use Rattle.std.proofs.Common.{ap, ◌∙◌}
use Rattle.search.specs.Least.{later}
use Rattle.analysis.proofs.JoinLaws.{row-few}
use Rattle.analysis.proofs.AnswerLaws.{row-handed, least-by-row}
use Rattle.analysis.proofs.by_charges.Goals as goal

pub terms-terms-requires : goal.terms-terms-requires
terms-terms-requires c =
    let a = c.args in row-few a.pending.table.now a.access.now a.method a.pending.i c.requires.1 c.args.pending.accepted

pub by_terms-requires : goal.by_terms-requires
by_terms-requires c =
    let a = c.args in
    rw (c.terms-terms.ensures, c.task.ensures) (row-handed a.pending.table.now a.access.now a.method a.pending.i c.args.pending.accepted c.args.pending.held c.requires.2 c.requires.1 a.limit.0 c.requires.0)

pub returns : goal.returns
returns c =
    let a = c.args in
    c.by_terms.ensures
    ∙ ap (later a.so_far) (rw (c.terms-terms.ensures, c.task.ensures) (least-by-row a.pending.table.now a.access.now a.method a.pending.i c.args.pending.accepted c.args.pending.held c.requires.2 c.requires.1 a.limit.0))
