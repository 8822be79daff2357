-- What is found by the first bytes of a table's text is found by all of them.
use Rattle.answered.specs.Answered.{bytes_checked, ending_checked}
use Rattle.endings.proofs.Written.{wrote}
use Rattle.answered.proofs.Lines.{answers}
use Rattle.answered.proofs.Fronts.{checks_whole}
use Rattle.answered.proofs.PrintableTexts.{check_passes}
use Rattle.answered.proofs.check.Goals as goal

pub returns-clause-whole : goal.returns-clause-whole
returns-clause-whole g c bytes front =
    let a = c.args in
    checks_whole a.text.now a.list.now bytes a.method _ _ _ front
    (answers (bytes_checked a.text.now a.list.now a.method) _ c.put_findings-made.new.out (ending_checked a.text.now a.list.now a.method) c.put_findings-made.result.len _ _ _ c.put_findings-made.ensures.bytes
    (wrote _ _ _ c.write_output.result c.write_output.ensures.whole c.write_output.ensures.part) c.put_findings-made.ensures.ending)

pub returns-clause-printable : goal.returns-clause-printable
returns-clause-printable g c = check_passes c.args.text.now c.args.list.now c.args.method
