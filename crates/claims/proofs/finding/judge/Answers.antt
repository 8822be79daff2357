-- `finding::judge` meets its contract.
use Rattle.std.proofs.Common.{◌≡◌, ap₂, ◌∙◌}
use Rattle.claims.specs.Findings.{by_either, finding_of}
use Rattle.claims.proofs.FindingLaws.{finding-means}
use Rattle.claims.proofs.finding.judge.Goals as goal

pub returns-in-Of : goal.returns-in-Of
unfolding finding_of
returns-in-Of c =
    let a = c.args in
    let e : c.judge_under.result ≡ finding_of a.pending.table.now a.method a.pending.i a.claim = rw c.in-Of.is c.judge_under.ensures in
    finding-means a.pending.table.now c.args.pending.accepted a.method a.pending.i c.args.pending.held a.claim _ e

pub returns-in-Combined : goal.returns-in-Combined
unfolding finding_of
returns-in-Combined c =
    let a = c.args in
    let e : c.by_either.result ≡ finding_of a.pending.table.now a.method a.pending.i a.claim =
    rw c.in-Combined.is (c.by_either.ensures ∙ ap₂ by_either c.judge_under-ucb_union.ensures c.judge_under-in-Combined.ensures) in
    finding-means a.pending.table.now c.args.pending.accepted a.method a.pending.i c.args.pending.held a.claim _ e
