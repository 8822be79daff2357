-- The lines stand in the draft, which is delivered whole.
use Rattle.std.proofs.Common.{◌≡◌, ◌<◌, ℕ, sym, subst, ap, length, length-append, ◌≤◌, ◌+◌, ◌++◌, arith}
use Rattle.table.specs.declared.Table.{Table}
use Rattle.table.specs.Tables.{at}
use Rattle.table.specs.Accepted.{AcceptedTable}
use Rattle.table.specs.declared.tasks.Task.{Task}
use Rattle.analysis.specs.declared.Method.{Method}
use Rattle.analysis.specs.declared.need.Need.{Need}
use Rattle.analysis.specs.Needs.{need_of}
use Rattle.report.proofs.ExplanationParts.{timed}
use Rattle.report.proofs.Ranges.{Needed, needed, explanation-is}
use Rattle.report.proofs.ExplanationLengths.{explanation-short}
use Rattle.report.proofs.Truth.{adds-up}
use Rattle.report.specs.Explanation.{need_line, reason_lines, explanation_of}
use Rattle.report.proofs.explanation.explain.Goals as goal

-- what is written is the explanation of the table
module _ {table : Table} (accepted : AcceptedTable table) {i : ℕ} (held : i < table.count) (method : Method) {task : Task} (t : task ≡ at table i)
    {need : Need} (e : need ≡ need_of table method i) where
  of-need : Needed table i need
  of-need = subst (Needed table i) (sym e) (needed table accepted i held method)

  text_is : need_line task need ++ reason_lines table need.blocker need.method i need.time ≡ explanation_of table method i
  text_is = explanation-is table accepted i held method _ _ t e

  fits : length (need_line task need) + length (reason_lines table need.blocker need.method i need.time) ≤ 1348
  fits = omega (arith, ap length text_is, length-append {A = ℕ}, explanation-short table accepted i held method)

pub write_need_line-requires-clause-limited : goal.write_need_line-requires-clause-limited
write_need_line-requires-clause-limited c = rw c.task.ensures (timed c.args.pending.accepted c.args.pending.i c.args.pending.held).jitter

pub write_need_line-requires-clause-room : goal.write_need_line-requires-clause-room
write_need_line-requires-clause-room c =
    omega (arith, ap length c.new-draft.ensures, fits c.args.pending.accepted c.args.pending.held c.args.method c.task.ensures c.explained-needed.ensures)

pub write_reasons-requires-clause-grounds : goal.write_reasons-requires-clause-grounds
write_reasons-requires-clause-grounds c =
    let n = of-need c.args.pending.accepted c.args.pending.held c.args.method c.task.ensures c.explained-needed.ensures in
    (n.ranged.time, record { accepted = c.args.pending.accepted; held = c.args.pending.held; blocker = n.blocker })

pub write_reasons-requires-clause-room : goal.write_reasons-requires-clause-room
write_reasons-requires-clause-room c =
    omega (arith, ap length c.new-draft.ensures, ap length c.write_need_line.ensures, length-append {A = ℕ}, fits c.args.pending.accepted c.args.pending.held c.args.method c.task.ensures c.explained-needed.ensures)

pub returns-clause-delivers : goal.returns-clause-delivers
returns-clause-delivers c =
    let text = text_is c.args.pending.accepted c.args.pending.held c.args.method c.task.ensures c.explained-needed.ensures in
    record {
      delivered = rw (c.text.ensures, c.write_reasons.ensures, c.write_need_line.ensures, c.new-draft.ensures, text) at c.deliver.ensures;
      short = explanation-short c.args.pending.table.now c.args.pending.accepted c.args.pending.i c.args.pending.held c.args.method;
    }

pub returns-clause-adds_up : goal.returns-clause-adds_up
returns-clause-adds_up c = adds-up c.args.pending.table.now c.args.pending.accepted c.args.pending.i c.args.pending.held c.args.method
