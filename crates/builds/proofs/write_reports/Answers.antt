-- One build more, and the end.
use Rattle.std.proofs.Common.{sym, ◌∙◌, arith, rules}
use Rattle.builds.proofs.Running.{at-start, turn, turn-skipped, at-end}
use Rattle.builds.proofs.write_reports.Goals as goal
use Rattle.builds.proofs.write_reports.Goals.{then-has+in_ok-line+in_ok-push+in_ok-push-2, else-has}

pub loop-i-init : goal.loop-i-init
loop-i-init g c = at-start _ _ _ c.new-lines.result.items c.new-fates.result.items c.new-lines.ensures.items c.new-fates.ensures.items

pub loop-i-preserved : goal.loop-i-preserved
loop-i-preserved g c =
    elim c.if-has.branch [
      | then-has+in_ok-line+in_ok-push+in_ok-push-2 w ↦ rw (w.folder-is, w.lines-is, w.fates-is)
          (turn _ _ _ c.args.part.number c.args.part.of c.args.builds.now c.loop-i.i w.index-builds-i.result w.as_slice.result.now c.loop-i.lines.items _ w.in_ok-line.field-0 c.loop-i.fates.items _ w.write_report-fate.result
          (omega arith) (sym c.has.ensures ∙ w.if-has.true) w.index-builds-i.is w.as_slice.ensures.value w.in_ok-line.ensures (search rules) (search rules) w.write_report-fate.ensures c.loop-i.invariant)
      | else-has w ↦ rw (w.folder-is, w.lines-is, w.fates-is)
          (turn-skipped _ _ c.args.part.number c.args.part.of c.args.builds.now c.loop-i.i c.loop-i.lines.items c.loop-i.fates.items (omega arith) (sym c.has.ensures ∙ w.if-has.false) c.loop-i.invariant)
    ]

pub returns : goal.returns
returns g c =
    at-end _ _ _ _ c.args.builds.now c.loop-i.i c.loop-i.lines.items c.loop-i.fates.items c.as_slice-2.result.now _ (omega arith) c.loop-i.invariant c.as_slice-2.ensures.value c.in_ok-list.ensures.list
