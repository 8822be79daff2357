-- One task more: its line stands after those of the tasks before it.
use Rattle.std.proofs.Common.{◌≡◌, ap, sym, arith, length, take}
use Rattle.search.specs.Positions.{run}
use Rattle.claims.specs.Told.{finding_at, findings_text}
use Rattle.claims.proofs.LineLaws.{line-more, line-is, next-fits, findings-short}
use Rattle.claims.proofs.write.Goals as goal

pub loop-i-init : goal.loop-i-init
unfolding run
loop-i-init c = c.new-draft.ensures

pub write_finding_line-requires : goal.write_finding_line-requires
write_finding_line-requires c =
    let a = c.args in
    let table = a.accepted.table.now in
    let line = line-is table _ a.method a.claims.now c.loop-i.i _ _ _ c.pending-pending.ensures.table c.pending-pending.ensures.position c.task.ensures c.judge-finding.ensures.value c.loop-i-test.true in
    omega (arith, ap length line, ap length c.loop-i.invariant, next-fits table a.accepted.accepted a.method (take table.count a.claims.now) c.loop-i.i c.loop-i-test.true)

pub loop-i-preserved : goal.loop-i-preserved
loop-i-preserved c =
    let a = c.args in
    let table = a.accepted.table.now in
    let line = line-is table _ a.method a.claims.now c.loop-i.i _ _ _ c.pending-pending.ensures.table c.pending-pending.ensures.position c.task.ensures c.judge-finding.ensures.value c.loop-i-test.true in
    rw (c.write_finding_line.ensures, line, c.loop-i.invariant) (sym (line-more (finding_at table a.method (take table.count a.claims.now)) c.loop-i.i))

pub returns : goal.returns
unfolding findings_text
returns c =
    let a = c.args in
    let table = a.accepted.table.now in
    let done : c.loop-i.i ≡ table.count = omega arith in
    record {
      delivered = rw (c.text.ensures, rw done at c.loop-i.invariant) at c.deliver.ensures;
      short = findings-short table a.accepted.accepted a.method (take table.count a.claims.now);
    }
