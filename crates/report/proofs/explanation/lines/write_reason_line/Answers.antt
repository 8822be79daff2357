-- One write after the other.
use Rattle.std.proofs.Common.{append_assoc, append-nil}
use Rattle.report.specs.Explanation.{reason_line}
use Rattle.report.proofs.explanation.lines.write_reason_line.Goals as goal

pub returns : goal.returns
unfolding reason_line
returns c =
    rw (c.push-2.ensures, c.write_victim.ensures, c.field-3.ensures, c.count.ensures, c.field-2.ensures, c.activations.ensures.0, c.field.ensures, c.text.ensures, c.push.ensures, c.task-task.ensures)
    (simp (append_assoc, append-nil))
