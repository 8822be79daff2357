-- What is answered about the first bytes is answered about all of them.
use Rattle.answered.specs.Answered.{bytes_for, ending_for}
use Rattle.endings.proofs.Written.{wrote}
use Rattle.answered.proofs.Lines.{answers}
use Rattle.answered.proofs.Fronts.{answers_whole}
use Rattle.answered.proofs.answer.Goals as goal

pub returns-clause-whole : goal.returns-clause-whole
returns-clause-whole g c bytes front =
    let a = c.args in
    answers_whole _ a.text.now bytes _ _ _ front
    (answers (bytes_for a.question a.text.now) _ c.put_for-made.new.out (ending_for a.question a.text.now) c.put_for-made.result.len _ _ _ c.put_for-made.ensures.bytes
    (wrote _ _ _ c.write_output.result c.write_output.ensures.whole c.write_output.ensures.part) c.put_for-made.ensures.ending)
