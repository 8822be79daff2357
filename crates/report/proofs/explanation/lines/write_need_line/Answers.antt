-- One write after the other.
use Rattle.std.proofs.Common.{append_assoc, append-nil}
use Rattle.report.specs.Explanation.{need_line}
use Rattle.report.proofs.explanation.lines.write_need_line.Goals as goal

pub returns : goal.returns
unfolding need_line
returns c =
    rw (c.push-2.ensures, c.fields.ensures, c.field-3.ensures, c.field-2.ensures, c.method_number.ensures, c.field.ensures, c.text.ensures, c.push.ensures) (simp (append_assoc, append-nil))
