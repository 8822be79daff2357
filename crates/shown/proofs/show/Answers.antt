-- `show` meets its contract.
use Rattle.std.proofs.Common.{ap, refl, subst, Ok}
use Rattle.endings.specs.Answered.{Writes}
use Rattle.endings.proofs.Written.{wrote}
use Rattle.shown.proofs.Texts.{shows, shows-refused}
use Rattle.shown.proofs.Printable.{show_passes}
use Rattle.shown.proofs.show.Goals as goal

pub returns-in-Ok-clause-shows : goal.returns-in-Ok-clause-shows
returns-in-Ok-clause-shows g c =
    let all = wrote c.as_slice.result.now _ _ c.write_output.result c.write_output.ensures.whole c.write_output.ensures.part in
    shows c.args.colours c.args.text.now _ _ _ c.in-Ok.shown.text.items c.in-Ok.shown.passes c.in-Ok.ensures.shown c.in-Ok.ensures.passes
    (subst (λ bytes. Writes bytes (g.W.Write.contents c.args.writer.now) (g.W.Write.contents c.write_output.new.output) c.write_output.result) c.as_slice.ensures.value all)
    (ap Ok c.of_responses.ensures)

pub returns-in-Err-Refused-clause-shows : goal.returns-in-Err-Refused-clause-shows
returns-in-Err-Refused-clause-shows g c =
    shows-refused c.args.colours c.args.text.now _ _ _ c.in-Err-Refused.refusal (rw c.in-Err-Refused.field-0-is at c.in-Err-Refused.ensures.refused)
    (wrote _ _ _ c.write_output-in-Err-Refused.result c.write_output-in-Err-Refused.ensures.whole c.write_output-in-Err-Refused.ensures.part) refl

pub returns-in-Ok-clause-printable : goal.returns-in-Ok-clause-printable
returns-in-Ok-clause-printable g c = show_passes c.args.colours c.args.text.now

pub returns-in-Err-Refused-clause-printable : goal.returns-in-Err-Refused-clause-printable
returns-in-Err-Refused-clause-printable g c = show_passes c.args.colours c.args.text.now

pub returns-in-Err-NoMemory-clause-printable : goal.returns-in-Err-NoMemory-clause-printable
returns-in-Err-NoMemory-clause-printable g c = show_passes c.args.colours c.args.text.now
